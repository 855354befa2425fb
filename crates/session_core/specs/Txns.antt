-- Where the states are kept that an open transaction reads.
use Rattle.std.specs.Prelude.{◌≡◌, Bool, Some, map}
use Rattle.std.specs.List.{list_all}
use Rattle.state_dag.specs.Table.{Table, is_slot, id_at}
use Rattle.merge_txn.specs.declared.Txn.{Txn}
use Rattle.merge_txn.specs.declared.Txn.TheVariants.{Single, Merge}

-- each of its slots is one of the table's
abbrev pub has_slots : Table → Txn → Bool
has_slots table (Single t) = is_slot table t.slot
has_slots table (Merge t) = list_all (is_slot table) t.slots

-- its slots are those of the states that it reads, in their order
abbrev pub IsNamed : Table → Txn → Type 0
IsNamed table (Single t) = id_at table t.slot ≡ Some t.state
IsNamed table (Merge t) = map (id_at table) t.slots ≡ map (λ x. Some x) t.states
