use Rattle.std.proofs.Common.{ℕ, ◌<◌, List, length, get_or, ap, subst, ◌∙◌, arith}
use Rattle.std.proofs.lemmas.List.{length-map}
use Rattle.tardis_base.specs.declared.ids.Slot.{Slot}
use Rattle.state_dag.specs.Table.{Entry}
use Rattle.branch_region.proofs.Marked.{found-below}
use Rattle.branch_region.proofs.marks.number_end.Goals as goal

pub returns : goal.returns
returns c = λ s there.
    let es = c.args.dag.now.entries in
    let items = c.kept_slots-slot-items.result.now in
    let slot : Entry → Slot = λ e. e.slot in
    let is = c.kept_slots-slot-items.ensures.is in
    let many = ap length is ∙ length-map es slot in
    let end = c.loop-slot-test.false in
    found-below es c.loop-slot.end s.0
    (subst (λ (ss : List Slot). (j : ℕ) → j < length es → (get_or ss j (record { 0 = 0 })).0 < c.loop-slot.end) is
    (λ j lt. c.loop-slot.invariant j (omega arith))) there
