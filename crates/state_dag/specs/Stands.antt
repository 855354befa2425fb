-- When a table stands for a history, beside the list of its collected states.
use Rattle.std.specs.Prelude.{◌≡◌, ℕ, ◌≤◌, Bool, false, ◌&&◌, nat_le, List, length, map, Some, IsTrue}
use Rattle.std.specs.List.{list_all, range_with_len}
use Rattle.std.specs.Option.{option_map_or}
use Rattle.tardis_base.specs.declared.ids.StateId.{StateId}
use Rattle.tardis_base.specs.declared.ids.Slot.{Slot}
use Rattle.tardis_base.specs.declared.records.Record.{Record}
use Rattle.tardis_base.specs.Ids.{is_among}
use Rattle.tardis_base.specs.Valid.{are_limits}
use Rattle.fork_path.specs.Pairs.{are_ascending_pairs, has_pair}
use Rattle.plain_dag.specs.States.{is_known, parents_of, arrival, children, count_of_site}
use Rattle.plain_dag.specs.Dag.{IsDag}
use Rattle.plain_dag.specs.Collection.{is_kept, kept_states, stand_in}
use Rattle.plain_dag.specs.Paths.{is_fork, leads_to, fork_path}
use Rattle.plain_dag.specs.Laws.{StandInsAreShared}
use Rattle.state_dag.specs.Table.{Entry, Table, entry_at, id_at}

-- the slot is that of a kept fork, and the branch of that number leads to x
abbrev pub is_taken : Table → List Record → StateId → ℕ × ℕ → Bool
is_taken table rs x pair =
    option_map_or (λ p. is_fork rs p && leads_to rs x (p, pair.1)) (id_at table (record { 0 = pair.0 })) false

-- the entry is that of x: what it says of x is so, its slots are those of the stand-ins of x's children in their order, and
-- its path has exactly the branches of kept forks that lead to x, each once
pub record Shows (table : Table) (rs : List Record) (ks : List StateId) (e : Entry) (x : StateId) : Type 0 where
  pub named : e.id ≡ x
  pub arrived : e.arrival ≡ arrival rs x
  pub has_parents : e.parents ≡ parents_of rs x
  pub has_children : e.children ≡ children rs x
  pub has_stand_ins : map (id_at table) e.stand_ins ≡ map (λ c. Some (stand_in rs ks c)) (children rs x)
  pub ascending : IsTrue (are_ascending_pairs e.path)
  pub has_path : (pair : ℕ × ℕ) → has_pair pair e.path ≡ is_taken table rs x pair

-- the table stands for these records and these collected states: they are a history; the collected are known and leave
-- shared stand-ins; the limits are valid and kept; the numbers are those of the history; the entries are those of the kept
-- states, in arrival order, and each slot names its state
pub record Stands (table : Table) (rs : List Record) (ks : List StateId) : Type 0 where
  pub dag : IsDag rs
  pub known_collected : (x : StateId) → IsTrue (is_among x ks) → IsTrue (is_known rs x)
  pub shared : StandInsAreShared rs ks
  pub valid : IsTrue (are_limits table.limits)
  pub sites : IsTrue (list_all (λ r. nat_le r.id.site table.limits.sites) rs)
  pub within : length (kept_states rs ks) ≤ table.limits.max_kept
  pub short : (x : StateId) → IsTrue (is_kept rs ks x) → length (fork_path rs ks x) ≤ table.limits.max_path
  pub counts : table.counts ≡ map (count_of_site rs) (range_with_len 1 table.limits.sites)
  pub known : table.known ≡ length rs
  pub ids : map (λ e. e.id) table.entries ≡ kept_states rs ks
  pub slots : map (λ e. id_at table e.slot) table.entries ≡ map (λ e. Some e.id) table.entries
  pub shows : (slot : Slot) (e : Entry) → entry_at table slot ≡ Some e → Shows table rs ks e e.id
