use Rattle.std.proofs.Common.{List, take}
use Rattle.tardis_base.specs.declared.ids.StateId.{StateId}
use Rattle.tardis_base.specs.declared.records.Record.{Record}
use Rattle.state_dag.specs.Stands.{Stands}
use Rattle.branch_region.specs.Walks.{waits_at, AreSlots, HasThese}
use Rattle.branch_region.proofs.walks.put_parents.Given as goal

abbrev pub invariant-loop-parent : goal.invariant-loop-parent
invariant-loop-parent l = record {
  slots : AreSlots l.dag (waits_at l.waiting);
  have : (rs : List Record) (ks : List StateId) → Stands l.dag rs ks →
      HasThese l.dag rs ks (take l.parent-index l.parent-items) (waits_at l.initial.waiting) (waits_at l.waiting);
}
