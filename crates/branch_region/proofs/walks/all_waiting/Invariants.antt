use Rattle.std.proofs.Common.{◌≡◌, List, Some, map, take}
use Rattle.tardis_base.specs.declared.ids.StateId.{StateId}
use Rattle.tardis_base.specs.declared.records.Record.{Record}
use Rattle.state_dag.specs.Table.{id_at}
use Rattle.state_dag.specs.Stands.{Stands}
use Rattle.branch_region.specs.Walks.{waits_at, AreSlots, AreWaiting}
use Rattle.branch_region.proofs.walks.all_waiting.Given as goal

abbrev pub invariant-loop-state : goal.invariant-loop-state
invariant-loop-state l = record {
  slots : AreSlots l.dag (waits_at l.waiting);
  are : (rs : List Record) (ks : List StateId) → Stands l.dag rs ks → (xs : List StateId) → map (id_at l.dag) l.states ≡ map (λ x. Some x) xs →
      AreWaiting l.dag rs (take l.state-index xs) (waits_at l.waiting);
}
