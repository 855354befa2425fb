use Rattle.std.proofs.Common.{List, Some, Result, Ok, Err, cond, eqb, refl, sym, ap, ◌∙◌}
use Rattle.std.specs.Result.{OnOk}
use Rattle.tardis_base.specs.declared.ids.StateId.{StateId}
use Rattle.tardis_base.specs.declared.faults.NoMemory.{NoMemory}
use Rattle.tardis_base.specs.Ids.{same_id}
use Rattle.state_dag.specs.declared.id_slots.NumberedSlot.{NumberedSlot}
use Rattle.state_dag.specs.IdSlots.{slot_of_number, slot_of_state}
use Rattle.state_dag.proofs.NumberedSlots.{site-at, site-changed}
use Rattle.state_dag.proofs.id_slots.IdSlots.put.Goals as goal

on_ok : {P Q : Type 0} → (r : Result (Unit {0}) NoMemory) → (P → Q) → OnOk r P → OnOk r Q
on_ok (Ok done) f p = f p
on_ok (Err fault) f p = p

pub put-requires : goal.put-requires
put-requires c = λ n le.
    let x : StateId = record { site = c.args.id.site; sequence = n } in
    let es = c.index_mut.result.now in
    ap (λ fs. slot_of_number fs n) c.index_mut.ensures.value
    ∙ sym (site-at c.make_site.new.sites.items c.args.id.site n es c.in_ok-make_site.ensures.made)
    ∙ c.make_site.ensures.same x
    ∙ ap (λ sites. slot_of_state sites x) c.self.view_is
    ∙ c.requires x refl le

pub returns-clause-put : goal.returns-clause-put
returns-clause-put c =
    let es = c.index_mut.result.now in
    let sites = c.make_site.new.sites.items in
    let i = c.args.id.site in
    on_ok c.put.result
    (λ tells x.
    site-changed sites i c.args.id.sequence (Some c.args.slot) es c.put.new.self c.in_ok-make_site.ensures.made
    (λ m. tells m ∙ ap (λ fs. cond (eqb m c.args.id.sequence) (Some c.args.slot) (slot_of_number fs m)) c.index_mut.ensures.value)
    x.site x.sequence
    ∙ ap (cond (same_id x c.args.id) (Some c.args.slot)) (c.make_site.ensures.same x
    ∙ ap (λ (olds : List (List NumberedSlot)). slot_of_state olds x) c.self.view_is))
    c.put.ensures.put
