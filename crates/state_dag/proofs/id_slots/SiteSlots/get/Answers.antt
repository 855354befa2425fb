use Rattle.std.proofs.Common.{sym, ap, ◌∙◌, Some}
use Rattle.state_dag.specs.declared.id_slots.NumberedSlot.{NumberedSlot}
use Rattle.state_dag.specs.IdSlots.{slot_of_number}
use Rattle.state_dag.proofs.NumberedSlots.{number-found}
use Rattle.state_dag.proofs.id_slots.SiteSlots.get.Goals as goal

pub returns : goal.returns
returns c =
    let e = c.in_ok-entry.entry.now in
    let found = number-found c.self.inside.entries.items c.args.sequence c.in_ok-place.place e c.self.invariant c.in_ok-place.ensures.within
    (c.in_ok-place.ensures.found e) in
    ap (λ (f : NumberedSlot). Some f.slot) c.in_ok-entry.ensures.lookup ∙ sym found ∙ ap (λ es. slot_of_number es c.args.sequence) c.self.view_is
