use Rattle.std.proofs.Common.{Some, sym, ap, ◌∙◌, eqb-true}
use Rattle.tardis_base.specs.declared.ids.Slot.{Slot}
use Rattle.record_store.proofs.Next.{none-between}
use Rattle.record_store.proofs.is_next.Goals as goal

pub returns-in-Some : goal.returns-in-Some
returns-in-Some c = λ e.
    let same = eqb-true c.in-Some.next.0 c.args.other.0 (sym c.eq.ensures ∙ e) in
    none-between c.args.dag.now c.args.slot c.args.other c.requires
    (sym c.kept_after.ensures.is ∙ (c.in-Some.is ∙ ap (λ n. let s : Slot = record { 0 = n } in Some s) same))
