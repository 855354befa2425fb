use Rattle.std.proofs.Common.{◌≡◌, length, ◌-◌}
use Rattle.tardis_base.specs.declared.ids.Slot.{Slot}
use Rattle.version_list.specs.Seats.{placed_in}
use Rattle.version_list.proofs.seats.lengthen.Given as goal

abbrev pub invariant-loop-table : goal.invariant-loop-table
invariant-loop-table l = (s : Slot) → placed_in l.table.items s ≡ placed_in l.fn.table.items s

abbrev pub decreases-loop-table : goal.decreases-loop-table
decreases-loop-table l = l.places - length l.table.items
