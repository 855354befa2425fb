use Rattle.std.proofs.Common.{◌≡◌, not, Some, None, sym, ap, subst, ◌∙◌}
use Rattle.state_dag.specs.Table.{id_at}
use Rattle.record_store.specs.Store.{Store}
use Rattle.record_store.proofs.Holding.{seen-stands}
use Rattle.record_store.proofs.Reading.{holder-is_news, slot-named}
use Rattle.record_store.proofs.RecordStore.is_latest_news.Goals as goal

pub returns-in-Some : goal.returns-in-Some
returns-in-Some c = λ rs ks stands x y from_is child_is.
    let now = c.args.self.now in
    let named = slot-named now.table c.in-Some.holder c.in-Some.ensures.slot in
    let held = seen-stands c.self.inside now c.self.view_is rs ks stands in
    let above = c.is_ancestor.ensures.above rs ks held.table named.0 x
    (subst (λ (s : Store). id_at s.table c.in-Some.holder ≡ Some named.0) (sym c.self.view_is) named.1)
    (subst (λ (s : Store). id_at s.table c.args.from ≡ Some x) (sym c.self.view_is) from_is) in
    ap not above
    ∙ holder-is_news now rs ks stands c.args.from c.args.child x y from_is child_is c.args.key.now (Some named.0)
    (sym named.1 ∙ c.in-Some.ensures.holder rs ks stands y child_is)

pub returns-in-None : goal.returns-in-None
returns-in-None c = λ rs ks stands x y from_is child_is.
    holder-is_news c.args.self.now rs ks stands c.args.from c.args.child x y from_is child_is c.args.key.now None
    (c.in-None.ensures.holder rs ks stands y child_is)
