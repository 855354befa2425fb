use Rattle.std.proofs.Common.{◌∙◌, List, None, cond, eqb, ap, arith}
use Rattle.tardis_base.specs.Ids.{same_id}
use Rattle.state_dag.specs.declared.id_slots.NumberedSlot.{NumberedSlot}
use Rattle.state_dag.specs.IdSlots.{slot_of_number, slot_of_state}
use Rattle.state_dag.proofs.NumberedSlots.{site-changed}
use Rattle.state_dag.proofs.id_slots.IdSlots.remove.Goals as goal

pub returns-then-id-len : goal.returns-then-id-len
returns-then-id-len c = λ x.
    let k = c.args.id.sequence in
    let long = c.len.ensures in
    let within = c.if-id-len.true in
    site-changed c.self.inside.sites.items c.args.id.site k None c.index_mut.result.now c.remove.new.self (omega arith)
    (λ m. c.remove.ensures m ∙ ap (λ es. cond (eqb m k) None (slot_of_number es m)) c.index_mut.ensures.value) x.site x.sequence
    ∙ ap (λ (sites : List (List NumberedSlot)). cond (same_id x c.args.id) None (slot_of_state sites x)) c.self.view_is
