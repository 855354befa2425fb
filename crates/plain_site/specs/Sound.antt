-- What holds of a site after every step.
use Rattle.std.specs.Prelude.{ℕ, ◌+◌, ◌≤◌, ◌≡◌, ◌==◌, Bool, true, ◌&&◌, not, nat_le, List, [], ◌∷◌, length, Some, IsTrue}
use Rattle.std.specs.List.{list_all}
use Rattle.tardis_base.specs.declared.ids.StateId.{StateId}
use Rattle.tardis_base.specs.declared.records.Record.{Record}
use Rattle.tardis_base.specs.Ids.{is_among}
use Rattle.tardis_base.specs.Keys.{are_ascending_keys}
use Rattle.tardis_base.specs.Valid.{is_u16, is_u32, is_within, is_key, is_record, are_parents, are_writes, are_limits}
use Rattle.plain_dag.specs.States.{states, is_known, children, count_of_site}
use Rattle.plain_dag.specs.Above.{are_apart}
use Rattle.plain_dag.specs.Dag.{IsDag}
use Rattle.plain_dag.specs.Begin.{is_admitted}
use Rattle.plain_dag.specs.Entries.{entry_of, have_ascending_numbers}
use Rattle.plain_dag.specs.Floors.{Floor, Session, is_above_ceilings}
use Rattle.plain_dag.specs.Collection.{is_kept, kept_states}
use Rattle.plain_dag.specs.Paths.{fork_path}
use Rattle.plain_dag.specs.Laws.{AreCollected}
use Rattle.tardis_base.specs.Sizes.{most_reads, most_waiting}
use Rattle.plain_site.specs.Site.{Site, Txn, Single, Merge, read_states, own_floor}

-- at most 256 keys read, each once, and writes as a record has them; a merge has 1 to 8 states, ascending
abbrev pub is_txn : Txn → Bool
is_txn (Single t) = nat_le (length t.reads) most_reads && list_all is_key t.reads && are_ascending_keys t.reads && are_writes t.writes
is_txn (Merge t) = are_parents t.states && are_writes t.writes

-- the transaction of an open session: within its limits, at states that are known, admitted under the ceiling, and apart
pub record IsSoundTxn (rs : List Record) (ceiling : StateId) (t : Txn) : Type 0 where
  pub shape : IsTrue (is_txn t)
  pub known : IsTrue (list_all (is_known rs) (read_states t))
  pub admitted : IsTrue (list_all (is_admitted rs ceiling) (read_states t))
  pub apart : IsTrue (are_apart rs (read_states t))

-- ceiling and last commit are known
abbrev pub is_sound_session : List Record → ℕ × Session → Bool
is_sound_session rs s = is_u16 s.0 && is_known rs s.1.ceiling && is_known rs s.1.last

-- of the sites from this one on: the floor is known, and no more states were stated than there are
abbrev pub are_sound_floors : List Record → ℕ → List Floor → Bool
are_sound_floors rs n [] = true
are_sound_floors rs n (f ∷ fs) = is_known rs f.state && nat_le f.stated (count_of_site rs n) && is_u32 f.number && are_sound_floors rs (n + 1) fs

-- each of these is different from those behind it
abbrev pub are_distinct : List StateId → Bool
are_distinct [] = true
are_distinct (x ∷ xs) = not (is_among x xs) && are_distinct xs

-- a record that waits is such as a request may carry, of one of the sites and not of the own one
abbrev pub may_wait : ℕ → ℕ → Record → Bool
may_wait sites own r = is_record r && nat_le r.id.site sites && not (r.id.site == own)

-- the waiting room of a site with so many sites and this number: at most 256 records, each id once
pub record IsSoundRoom (sites : ℕ) (own : ℕ) (room : List Record) : Type 0 where
  pub few : length room ≤ most_waiting
  pub once : IsTrue (are_distinct (states room))
  pub each : IsTrue (list_all (may_wait sites own) room)

pub record IsSound (site : Site) : Type 0 where
  pub limits : IsTrue (are_limits site.limits)
  pub own : IsTrue (is_within 1 site.limits.sites site.own)
  -- the history
  pub dag : IsDag site.dag
  pub of_the_sites : IsTrue (list_all (λ x. nat_le x.site site.limits.sites) (states site.dag))
  pub few_kept : length (kept_states site.dag site.collected) ≤ site.limits.max_kept
  pub short_paths : (x : StateId) → IsTrue (is_kept site.dag site.collected x) → length (fork_path site.dag site.collected x) ≤ site.limits.max_path
  pub few_children : (x : StateId) → length (children site.dag x) ≤ site.limits.max_kept
  -- sessions and transactions
  pub few_sessions : length site.sessions ≤ site.limits.max_sessions
  pub session_numbers : IsTrue (have_ascending_numbers site.sessions)
  pub each_session : IsTrue (list_all (is_sound_session site.dag) site.sessions)
  pub txn_numbers : IsTrue (have_ascending_numbers site.txns)
  pub each_txn : (n : ℕ) (t : Txn) → entry_of n site.txns ≡ Some t → (s : Session) × (entry_of n site.sessions ≡ Some s) × IsSoundTxn site.dag s.ceiling t
  -- floors and collected states
  pub one_floor_each : length site.floors ≡ site.limits.sites
  pub each_floor : IsTrue (are_sound_floors site.dag 1 site.floors)
  pub under_floor : IsTrue (is_above_ceilings site.dag site.sessions (own_floor site).state)
  pub collected : AreCollected site.dag site.floors site.collected
  pub collected_once : IsTrue (are_distinct site.collected)
  -- what waits
  pub waiting : IsSoundRoom site.limits.sites site.own site.waiting
