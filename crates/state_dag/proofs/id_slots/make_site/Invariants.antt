use Rattle.std.proofs.Common.{◌≡◌, ◌+◌, ◌-◌, length}
use Rattle.tardis_base.specs.declared.ids.StateId.{StateId}
use Rattle.state_dag.specs.IdSlots.{slot_of_state}
use Rattle.state_dag.proofs.id_slots.make_site.Given as goal

abbrev pub invariant-loop-alloc : goal.invariant-loop-alloc
invariant-loop-alloc l = (x : StateId) → slot_of_state l.sites.items x ≡ slot_of_state l.fn.sites.items x

abbrev pub decreases-loop-alloc : goal.decreases-loop-alloc
decreases-loop-alloc l = l.site + 1 - length l.sites.items
