use Rattle.std.proofs.Common.{◌≡◌, List, [], ◌∷◌, Some, IsTrue}
use Rattle.tardis_base.specs.declared.ids.StateId.{StateId}
use Rattle.tardis_base.specs.declared.records.Record.{Record}
use Rattle.tardis_base.specs.Keys.{are_ascending_keys}
use Rattle.plain_dag.specs.Forks.{fork_points}
use Rattle.state_dag.specs.Table.{id_at}
use Rattle.record_store.specs.Stands.{StoreStands}
use Rattle.join_rules.specs.Valued.{value_of}
use Rattle.join_rules.specs.Settlings.{IsParting}
use Rattle.join_rules.proofs.ValueLaws.{SoFar}
use Rattle.join_rules.proofs.settling.values_of.Given as goal

abbrev pub invariant-loop-key : goal.invariant-loop-key
invariant-loop-key l =
    (rs : List Record) (ks : List StateId) → StoreStands l.store rs ks → (x y : StateId) → id_at l.store.table l.a ≡ Some x → id_at l.store.table l.b ≡ Some y →
    IsParting l.store.table (fork_points rs (x ∷ y ∷ [])) l.parting → IsTrue (are_ascending_keys l.keys) →
    SoFar (value_of l.rules rs x y) l.keys l.key-index l.writes
