-- Upkeep of a machine: requests that the hub asks itself, the replies that count towards them, and how long they wait.
use Rattle.std.specs.Prelude.{ℕ, ◌+◌, ◌-◌, ◌/◌, min, max, ◌==◌, ◌||◌, ◌&&◌, not, Bool, true, false, List, [], ◌∷◌, ◌++◌, length, take, map, filter, bytes_eq, nat_le, nat_lt, slice_get, Option, Some, None, if◌then◌else◌}
use Rattle.std.specs.List.{list_any}
use Rattle.tardis_base.specs.Plain.{no_memory}
use Rattle.hub.specs.declared.upkeeps.Upkeep.{Upkeep}
use Rattle.hub.specs.declared.upkeeps.LastReply.{LastReply}

-- These requests are asked as soon as `after` replies were given that begin with one of these bytes and don't say that memory was
-- wanting, and then `pays` of these are paid off. What the last of the requests is answered by may say something: `full`, that there may
-- be more to do; `idle`, that nothing could be done; `held`, that there is something to do which is somebody else's for now. Behind
-- `idle` and `held` they are asked again as soon as `later` replies were given, or `after` once `soon` milliseconds have passed. And as
-- often as `wait` milliseconds have passed while `held` lasts, the next of the late requests is asked in place of the last one.
pub record UpkeepRule : Type 0 where
  pub codes : List ℕ
  pub after : ℕ
  pub pays : ℕ
  pub requests : List (List ℕ)
  pub full : List ℕ
  pub idle : List ℕ
  pub held : List ℕ
  pub later : ℕ
  pub soon : ℕ
  pub late : List (List ℕ)
  pub wait : ℕ

-- what an upkeep says, without its bytes as values of the program
abbrev pub rule_of : Upkeep → UpkeepRule
rule_of upkeep = record {
  codes = upkeep.codes.now;
  after = upkeep.after;
  pays = upkeep.pays;
  requests = map (λ r. r.now) upkeep.requests.now;
  full = upkeep.full.now;
  idle = upkeep.idle.now;
  held = upkeep.held.now;
  later = upkeep.later;
  soon = upkeep.soon;
  late = map (λ r. r.now) upkeep.late.now;
  wait = upkeep.wait;
}

-- the late request after so many waits, counted from 1
abbrev pub late_of : UpkeepRule → (waited : ℕ) → Option (List ℕ)
late_of rule ℕ.zero = None
late_of rule (ℕ.suc k) = slice_get rule.late k

-- the requests, with this one in place of the last
abbrev pub with_last : List (List ℕ) → Option (List ℕ) → List (List ℕ)
with_last requests None = requests
with_last requests (Some request) = take (length requests - 1) requests ++ request ∷ []

-- what is asked after so many waits
abbrev pub asked : UpkeepRule → (waited : ℕ) → List (List ℕ)
asked rule waited = with_last rule.requests (late_of rule waited)

abbrev pub begins_with_one_of : List ℕ → List ℕ → Bool
begins_with_one_of codes [] = false
begins_with_one_of codes (byte ∷ rest) = list_any (λ code. code == byte) codes

-- a reply counts that begins with one of these bytes, unless it is the one that memory was wanting
abbrev pub is_counted : List ℕ → List ℕ → Bool
is_counted codes reply = not (bytes_eq reply no_memory) && begins_with_one_of codes reply

-- how many of the replies count
abbrev pub counted : List ℕ → List (List ℕ) → ℕ
counted codes replies = length (filter (is_counted codes) replies)

-- whether the last of the replies is this one
abbrev pub ends_with : List ℕ → List (List ℕ) → Bool
ends_with full [] = false
ends_with full (reply ∷ []) = bytes_eq reply full
ends_with full (reply ∷ next ∷ replies) = ends_with full (next ∷ replies)

-- what the last of the replies says
abbrev pub said : UpkeepRule → List (List ℕ) → LastReply
said rule replies =
    record { is_full = ends_with rule.full replies; is_idle = ends_with rule.idle replies; is_held = ends_with rule.held replies }

-- no upkeep was made that says anything
abbrev pub nothing_said : LastReply
nothing_said = record { is_full = false; is_idle = false; is_held = false }

-- What a hub keeps of it: how many replies that count aren't paid off by an upkeep; what the last reply of the newest upkeep says; and
-- whether the edge had a turn since one that may have left more. And of the edge's clock: what it shows; what it showed when the newest
-- upkeep was made; whether a wait runs, and since when; and how many waits had passed when the newest was asked.
pub record TallyState : Type 0 where
  pub rule : Option UpkeepRule
  pub count : ℕ
  pub last : LastReply
  pub backlog : Bool
  pub clock : ℕ
  pub made : ℕ
  pub runs : Bool
  pub since : ℕ
  pub waited : ℕ

abbrev pub first_tally : Option UpkeepRule → TallyState
first_tally rule = record { rule = rule; count = 0; last = nothing_said; backlog = false; clock = 0; made = 0; runs = false; since = 0; waited = 0 }

abbrev pub counted_by : Option UpkeepRule → List (List ℕ) → ℕ
counted_by None replies = 0
counted_by (Some rule) replies = counted rule.codes replies

abbrev pub with_count : TallyState → ℕ → TallyState
with_count tally count = record {
  rule = tally.rule;
  count = count;
  last = tally.last;
  backlog = tally.backlog;
  clock = tally.clock;
  made = tally.made;
  runs = tally.runs;
  since = tally.since;
  waited = tally.waited;
}

-- these replies were given
abbrev pub noted : TallyState → List (List ℕ) → TallyState
noted tally replies = with_count tally (tally.count + counted_by tally.rule replies)

-- the edge told the time: the clock never goes back
abbrev pub timed : TallyState → (now : ℕ) → TallyState
timed tally now = record {
  rule = tally.rule;
  count = tally.count;
  last = tally.last;
  backlog = tally.backlog;
  clock = max tally.clock now;
  made = tally.made;
  runs = tally.runs;
  since = tally.since;
  waited = tally.waited;
}

-- the edge had a turn
abbrev pub passed : TallyState → TallyState
passed tally = record {
  rule = tally.rule;
  count = tally.count;
  last = tally.last;
  backlog = tally.last.is_full;
  clock = tally.clock;
  made = tally.made;
  runs = tally.runs;
  since = tally.since;
  waited = tally.waited;
}

-- how many waits are in so many milliseconds, at most as many as there are late requests
abbrev pub waits_in : Option UpkeepRule → (passed : ℕ) → ℕ
waits_in None passed = 0
waits_in (Some rule) passed = min (length rule.late) (passed / rule.wait)

-- how many waits have passed: while one runs as many as since it began, and else as many as when the newest upkeep was asked
abbrev pub waited_by : TallyState → ℕ
waited_by tally = if tally.runs then waits_in tally.rule (tally.clock - tally.since) else tally.waited

-- A wait runs behind `held`; and where it ran it goes on behind what was done without a late request.
abbrev pub runs_behind : TallyState → LastReply → Bool
runs_behind tally last = if last.is_held then true else last.is_full && (tally.runs && waited_by tally == 0)

-- The waits that have passed still count where a wait goes on, and where there may be more to do.
abbrev pub goes_on : TallyState → LastReply → Bool
goes_on tally last = if last.is_held then tally.runs else last.is_full

abbrev pub pays_of : Option UpkeepRule → ℕ
pays_of None = 0
pays_of (Some rule) = rule.pays

-- an upkeep paid off what it pays, and its last reply says this
abbrev pub paid : TallyState → LastReply → TallyState
paid tally last = record {
  rule = tally.rule;
  count = tally.count - pays_of tally.rule;
  last = last;
  backlog = false;
  clock = tally.clock;
  made = tally.clock;
  runs = runs_behind tally last;
  since = if tally.runs then tally.since else tally.clock;
  waited = if goes_on tally last then waited_by tally else 0;
}

-- nothing could be done, or it is somebody else's for now
abbrev pub puts_off : LastReply → Bool
puts_off last = last.is_idle || last.is_held

-- how many replies make an upkeep due
abbrev pub wanted : UpkeepRule → LastReply → ℕ
wanted rule last = if puts_off last then rule.later else rule.after

-- it was put off, but `after` replies aren't paid off, and `soon` milliseconds have passed
abbrev pub is_soon : UpkeepRule → TallyState → Bool
is_soon rule tally = puts_off tally.last && nat_le rule.after tally.count && nat_le rule.soon (tally.clock - tally.made)

-- An upkeep is due where as many replies as are wanted aren't paid off; or where there is a backlog; or soon; or where more waits have
-- passed than when the newest was asked.
abbrev pub is_due : UpkeepRule → TallyState → Bool
is_due rule tally =
    nat_le (wanted rule tally.last) tally.count || tally.backlog || is_soon rule tally || nat_lt tally.waited (waited_by tally)

abbrev pub due_under : Option UpkeepRule → TallyState → Option UpkeepRule
due_under None tally = None
due_under (Some rule) tally = if is_due rule tally then Some rule else None

-- the upkeep that is due by a tally
abbrev pub due_by : TallyState → Option UpkeepRule
due_by tally = due_under tally.rule tally
