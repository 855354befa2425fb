-- What a question is answered.
use Rattle.std.specs.Prelude.{ℕ, Bool, true, ◌+◌, ◌-◌, nat_lt, nat_le, List, [], ◌∷◌, length, take, map, filter, find, min, Option, Some, None, option_map, if◌then◌else◌}
use Rattle.std.specs.Option.{option_or, option_map_or}
use Rattle.tardis_base.specs.declared.ids.StateId.{StateId}
use Rattle.tardis_base.specs.declared.records.Record.{Record}
use Rattle.tardis_base.specs.Sizes.{most_named, most_parents, piece}
use Rattle.tardis_base.specs.Ids.{same_id, is_among}
use Rattle.tardis_base.specs.Keys.{keys_of}
use Rattle.plain_dag.specs.States.{record_at, arrival, parents_of, children}
use Rattle.plain_dag.specs.Writers.{read}
use Rattle.plain_dag.specs.Forks.{fork_points}
use Rattle.plain_dag.specs.Begin.{first_unknown}
use Rattle.plain_dag.specs.Entries.{entry_of}
use Rattle.plain_dag.specs.Floors.{Session, automatic_floor}
use Rattle.plain_dag.specs.Collection.{is_kept, kept_states}
use Rattle.plain_site.specs.Site.{Site, own_floor, read_states}
use Rattle.plain_questions.specs.declared.questions.TheConstants.{FORMAT_VERSION}
use Rattle.plain_questions.specs.declared.questions.Question.{Question}
use Rattle.plain_questions.specs.declared.questions.Question.TheVariants.{At, Keys, Scan, Record as RecordOf, Base, Sessions, Site as TheSite}
use Rattle.plain_questions.specs.declared.questions.Entry.{Entry}
use Rattle.plain_questions.specs.declared.questions.ForkRead.{ForkRead}
use Rattle.plain_questions.specs.declared.questions.SessionLine.{SessionLine}
use Rattle.plain_questions.specs.declared.questions.Denial.{Denial}
use Rattle.plain_questions.specs.declared.questions.Denial.TheVariants.{Unknown, Collected, ForkPoints}
use Rattle.plain_questions.specs.declared.questions.Answered.{Answered}
use Rattle.plain_questions.specs.declared.questions.Answered.TheVariants.{Read, Keys as TheKeys, Entries, Record as TheRecord, ForkReads, Sessions as TheSessions}
use Rattle.plain_questions.specs.declared.questions.Answered.TheVariants.{Site as OfSite, Refused}
use Rattle.plain_questions.specs.Contents.{keys_behind, entries_behind}

-- ===== Kept states

-- the first of these states that was collected
abbrev pub first_collected : Site → List StateId → Option StateId
first_collected site xs = find (λ x. is_among x site.collected) xs

-- why nothing is told of these states: one isn't known, or one was collected
abbrev pub denial : Site → List StateId → Option Denial
denial site xs = option_or (option_map Unknown (first_unknown site.dag xs)) (option_map Collected (first_collected site xs))

-- what is told of kept states
abbrev pub of_kept : Site → List StateId → Answered → Answered
of_kept site xs told = option_map_or Refused (denial site xs) told

-- ===== Pages

-- how many there are, as far as 32 bits tell
abbrev pub number_of : {A : Type 0} → List A → ℕ
number_of xs = min (length xs) 4294967295

-- how many keys there are, and the first 256
abbrev pub page_of_keys : List (List ℕ) → Answered
page_of_keys ks = TheKeys (number_of ks) (take most_named ks)

-- the bytes of a key and a value with their lengths
abbrev pub entry_length : Entry → ℕ
entry_length e = (1 + length e.key) + (2 + length e.value)

-- the bytes of several
abbrev pub entries_length : List Entry → ℕ
entries_length [] = 0
entries_length (e ∷ es) = entry_length e + entries_length es

-- the first entries, as many as have so many bytes
abbrev pub fitting : ℕ → List Entry → List Entry
fitting room [] = []
fitting room (e ∷ es) =
    let others = fitting (room - entry_length e) es in
    if nat_le (entry_length e) room then e ∷ others else []

-- the first entry, and behind it as many as have 65,536 bytes with it
abbrev pub first_entries : List Entry → List Entry
first_entries [] = []
first_entries (e ∷ es) = e ∷ fitting (piece - entry_length e) es

-- how many entries there are, and the first
abbrev pub page_of_entries : List Entry → Answered
page_of_entries es = Entries (number_of es) (first_entries es)

-- ===== History

-- those of these states that are kept
abbrev pub kept_among : Site → List StateId → List StateId
kept_among site xs = filter (is_kept site.dag site.collected) xs

-- the keys that the state wrote
abbrev pub keys_written : List Record → StateId → List (List ℕ)
keys_written rs x = option_map_or (λ r. keys_of r.writes) (record_at rs x) []

-- when the state arrived, its parents, which of them and of its children are kept, and what it wrote
abbrev pub record_told : Site → StateId → Answered
record_told site x =
    let parents = parents_of site.dag x in
    TheRecord (arrival site.dag x) parents (kept_among site parents) (kept_among site (children site.dag x)) (keys_written site.dag x)

-- the read of the key at the fork point
abbrev pub fork_read : List Record → List ℕ → StateId → ForkRead
fork_read rs k p = record { fork_point = p; found = read rs k p }

-- the reads of the key at these fork points, which may be 8
abbrev pub reads_at : List Record → List ℕ → List StateId → Answered
reads_at rs k ps = if nat_lt most_parents (length ps) then Refused (ForkPoints (number_of ps)) else ForkReads (map (fork_read rs k) ps)

-- ===== Sessions

-- where the own floor would stand if it were raised now
abbrev pub next_floor : Site → StateId
next_floor site = automatic_floor site.dag (own_floor site).state site.sessions

-- the read states of the session's transaction; none where none is open
abbrev pub states_read : Site → ℕ → List StateId
states_read site n = option_map_or read_states (entry_of n site.txns) []

-- the session as it is told; it holds the floor where that can't be raised past its ceiling
abbrev pub session_line : Site → ℕ × Session → SessionLine
session_line site s =
    record {
      number = s.0;
      follow = s.1.follow;
      ceiling = s.1.ceiling;
      last = s.1.last;
      reads = states_read site s.0;
      holds = same_id s.1.ceiling (next_floor site);
    }

-- the session's number is above this one, or there is none
abbrev pub is_session_behind : Option ℕ → ℕ × Session → Bool
is_session_behind None s = true
is_session_behind (Some n) s = nat_lt n s.0

-- where the floor would stand, how many sessions there are behind the number, and the first 256
abbrev pub sessions_told : Site → Option ℕ → Answered
sessions_told site after =
    let behind = filter (is_session_behind after) site.sessions in
    TheSessions (next_floor site) (number_of behind) (map (session_line site) (take most_named behind))

-- ===== The site

abbrev pub site_told : Site → Answered
site_told site = OfSite FORMAT_VERSION site.limits site.own (length site.dag) (length (kept_states site.dag site.collected))

-- ===== Answers

abbrev pub answer : Site → Question → Answered
answer site (At x k) = of_kept site (x ∷ []) (Read (read site.dag k x))
answer site (Keys x prefix after) = of_kept site (x ∷ []) (page_of_keys (keys_behind site.dag x prefix after))
answer site (Scan x prefix after) = of_kept site (x ∷ []) (page_of_entries (entries_behind site.dag x prefix after))
answer site (RecordOf x) = of_kept site (x ∷ []) (record_told site x)
answer site (Base xs k) = of_kept site xs (reads_at site.dag k (fork_points site.dag xs))
answer site (Sessions after) = sessions_told site after
answer site TheSite = site_told site
