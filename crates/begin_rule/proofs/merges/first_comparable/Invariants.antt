use Rattle.std.proofs.Common.{◌≡◌, Some, List, map, find, drop}
use Rattle.tardis_base.specs.declared.ids.StateId.{StateId}
use Rattle.tardis_base.specs.declared.records.Record.{Record}
use Rattle.plain_dag.specs.Above.{are_comparable}
use Rattle.state_dag.specs.Table.{id_at}
use Rattle.state_dag.specs.Stands.{Stands}
use Rattle.begin_rule.proofs.merges.first_comparable.Given as goal

abbrev pub invariant-loop-other : goal.invariant-loop-other
invariant-loop-other l = (rs : List Record) (ks : List StateId) → Stands l.dag rs ks → (x : StateId) (ys : List StateId) → id_at l.dag l.slot ≡ Some x →
    map (id_at l.dag) l.others ≡ map (λ y. Some y) ys →
    find (are_comparable rs x) ys ≡ find (are_comparable rs x) (drop l.other-index ys)
