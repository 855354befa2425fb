use Rattle.std.proofs.Common.{None, Some, sym, ◌∙◌}
use Rattle.record_store.proofs.Reading.{slot-named}
use Rattle.state_dag.proofs.ParentSlots.{same-slot}
use Rattle.twin_stores.proofs.Holding.{holds-where}
use Rattle.twin_stores.proofs.stores.holds.Goals as goal

pub returns-in-Some : goal.returns-in-Some
returns-in-Some c = λ rs ks stands x named.
    let table = c.args.store.now.table in
    let holder = c.in-Some.holder in
    let at = slot-named table holder c.in-Some.ensures.slot in
    c.eq.ensures
    ∙ (same-slot table rs ks stands.table holder c.args.slot at.0 x at.1 named
    ∙ sym (holds-where c.args.store.now rs ks stands c.args.slot x named c.args.key.now (Some at.0) (sym at.1 ∙ c.in-Some.ensures.holder rs ks stands x named)))

pub returns-in-None : goal.returns-in-None
returns-in-None c = λ rs ks stands x named.
    sym (holds-where c.args.store.now rs ks stands c.args.slot x named c.args.key.now None (c.in-None.ensures.holder rs ks stands x named))
