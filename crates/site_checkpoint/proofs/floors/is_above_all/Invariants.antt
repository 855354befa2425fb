use Rattle.std.proofs.Common.{◌≡◌, Some, List, map, drop}
use Rattle.tardis_base.specs.declared.ids.StateId.{StateId}
use Rattle.tardis_base.specs.declared.records.Record.{Record}
use Rattle.plain_dag.specs.Above.{is_above_all}
use Rattle.state_dag.specs.Table.{id_at}
use Rattle.state_dag.specs.Stands.{Stands}
use Rattle.site_checkpoint.proofs.floors.is_above_all.Given as goal

abbrev pub invariant-loop-other : goal.invariant-loop-other
invariant-loop-other l = (rs : List Record) (ks : List StateId) → Stands l.dag rs ks → (x : StateId) → id_at l.dag l.slot ≡ Some x → (ys : List StateId) →
    map (id_at l.dag) l.others ≡ map (λ y. Some y) ys →
    is_above_all rs x ys ≡ is_above_all rs x (drop l.other-index ys)
