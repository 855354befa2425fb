-- What is served from a site.
use Rattle.std.specs.Prelude.{ℕ, ◌*◌, max, Bool, true, false, List, [], ◌∷◌, ◌++◌, length, Option, Some, None}
use Rattle.tardis_base.specs.Plain.{Event}
use Rattle.tardis_base.specs.declared.requests.Request.TheVariants.{Stat, RaiseAuto, Tidy}
use Rattle.tardis_base.specs.declared.replies.Reply.TheVariants.{Tidied}
use Rattle.wire_talk.specs.Spellings.{request_spelling, reply_spelling}
use Rattle.wire_lives.specs.declared.life_codes.TheConstants.{BEGIN_LIFE}
use Rattle.join_rules.specs.declared.join_codes.TheConstants.{JOIN, JOINED, LEFT, FOR_OTHERS}
use Rattle.daemon_words.specs.Daemons.{Daemon, daemon_limits}
use Rattle.hub.specs.declared.ports.Scope.{Scope}
use Rattle.hub.specs.declared.ports.Seen.{Seen}
use Rattle.hub.specs.declared.serves.End.{End}
use Rattle.hub.specs.Settlings.{PlainSettling, behind_doors}
use Rattle.hub.specs.Doors.{seen_through}
use Rattle.hub.specs.Upkeeps.{UpkeepRule}
use Rattle.hub.specs.Runs.{IsRun}
use Rattle.plain_site.specs.Site.{opening}
use Rattle.plain_site.specs.Sound.{IsSound}
use Rattle.site_lives.specs.Acquainted.{Acquainted, unacquainted}
use Rattle.rest_site.specs.declared.oldest_codes.TheConstants.{OLDEST}
use Rattle.rest_site.specs.Ruled.{ruled_machine}
use Rattle.site_doors.specs.Rules.{site_doors}

-- the replies that count: those that told of a commit or a delivery, of how much is known, or that something was refused. 8 is the first
-- byte of a reply Committed, 17 that of Applied, 14 that of Stat, and 21 that of a refusal
abbrev pub counted_codes : List ℕ
counted_codes = 8 ∷ 17 ∷ 14 ∷ 21 ∷ []

-- For each 64 replies that count these are asked; and again in the next turn where the last of them was answered so. No reply is empty, so
-- none says that nothing could be done, or that others are to do it.
abbrev pub slow_rule : List (List ℕ) → (full : List ℕ) → UpkeepRule
slow_rule requests full = record {
  codes = counted_codes;
  after = 64;
  pays = 64;
  requests = requests;
  full = full;
  idle = [];
  later = 64;
  held = [];
  soon = 18446744073709551615;
  late = [];
  wait = 1;
}

-- what keeps states from being collected, and how much is kept: the edge is told of both, so it knows the one when it is told the other
abbrev pub watching : List (List ℕ)
watching = (OLDEST ∷ []) ∷ request_spelling Stat ∷ []

-- These are asked alone; or where the site collects the floor is raised behind them and then up to 64 states are collected, and again in the next turn
-- where as many were.
abbrev pub tidy_rule : (tidy : Bool) → UpkeepRule
tidy_rule false = slow_rule watching []
tidy_rule true = slow_rule (watching ++ request_spelling RaiseAuto ∷ request_spelling (Tidy 64) ∷ []) (reply_spelling (Tidied 64))

-- the request to join two leaves by rules, with this patience
abbrev pub join_request : (patience : ℕ) → (rules : List ℕ) → List ℕ
join_request patience rules = JOIN ∷ patience ∷ rules

-- For so many milliseconds leaves are left to another site: for as many seconds as are asked for, and for two pauses between exchanges at
-- least, within which a join that was made comes.
abbrev pub wait_of : (join_after every : ℕ) → ℕ
wait_of join_after every = max (1000 * max join_after (2 * every)) 1

-- After each turn in which a reply was given that counts these are asked; and again behind the next turn where the last of them joined two
-- leaves. Where leaves stay apart, they are asked again once 64 replies were given that count, or one and a second has passed. Leaves that
-- another site is to join wait for it, and then the last request is asked with more patience: after one wait so, and after two so.
abbrev pub joining_rule : (requests late : List (List ℕ)) → (join_after every : ℕ) → UpkeepRule
joining_rule requests late join_after every = record {
  codes = counted_codes;
  after = 1;
  pays = 4294967295;
  requests = requests;
  full = JOIN ∷ JOINED ∷ [];
  idle = JOIN ∷ LEFT ∷ [];
  later = 64;
  held = JOIN ∷ FOR_OTHERS ∷ [];
  soon = 1000;
  late = late;
  wait = wait_of join_after every;
}

-- the requests to join after one wait and after two
abbrev pub late_joins : (rules : List ℕ) → List (List ℕ)
late_joins rules = join_request 1 rules ∷ join_request 2 rules ∷ []

-- With rules two leaves are joined by them; where the site collects too the floor is raised before that, and up to 4,096 states are
-- collected.
abbrev pub upkeep_rule : (tidy : Bool) → (rules : Option (List ℕ)) → (join_after every : ℕ) → Option UpkeepRule
upkeep_rule tidy None join_after every = Some (tidy_rule tidy)
upkeep_rule false (Some rules) join_after every = Some (joining_rule (watching ++ join_request 0 rules ∷ []) (late_joins rules) join_after every)
upkeep_rule true (Some rules) join_after every =
    Some (joining_rule (watching ++ request_spelling RaiseAuto ∷ request_spelling (Tidy 4096) ∷ join_request 0 rules ∷ []) (late_joins rules) join_after every)

-- with as many connections as are asked for; from the peers that are asked for, and as often as is asked
abbrev pub scope_of : Daemon → Scope
scope_of asked = record { connections = asked.capacity.connections; peers = length asked.peers; seconds = asked.every }

-- the request by which a site begins this life, unless it has one
abbrev pub begin_life : List ℕ → Event
begin_life life = (0, BEGIN_LIFE ∷ life)

-- the site that opens where it is asked for, with the limits that are asked for, and knows no life
abbrev pub opens_at : Daemon → Acquainted
opens_at asked = unacquainted (opening (daemon_limits asked) asked.place.site)

-- the site with the lives that it knows, in memory and behind its doors: it owes nothing, and settling leaves it as it is
abbrev pub asked_site : PlainSettling Acquainted
asked_site = behind_doors ruled_machine (seen_through ruled_machine site_doors) (λ a. Unit {0}) (λ a. a)

-- A run of a hub over the plain site that opens as is asked for and then begins this life, behind its doors, to a sound site, with the
-- upkeep, the connections and the peers that are asked for, and what the edge saw.
abbrev pub ServesPlace : Daemon → (life : List ℕ) → End → (before after : Option (List Seen)) → Type 0
ServesPlace asked life end before after =
    IsRun asked_site (upkeep_rule asked.tidy asked.rules asked.join_after asked.every) (scope_of asked) (λ a. IsSound a.site) (ruled_machine.step (opens_at asked) (begin_life life)) end
    before after
