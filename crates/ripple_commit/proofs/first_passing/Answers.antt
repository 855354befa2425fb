use Rattle.std.proofs.Common.{◌≡◌, ◌≤◌, ◌<◌, ◌∙◌, Some, not, map, length, get_or, refl, sym, ap, subst, arith}
use Rattle.tardis_base.specs.declared.ids.Slot.{Slot}
use Rattle.tardis_base.specs.Ids.{root}
use Rattle.tardis_base.specs.Keys.{keys_of}
use Rattle.plain_dag.specs.States.{children}
use Rattle.plain_dag.specs.Landing.{guarded}
use Rattle.state_dag.specs.Table.{id_at}
use Rattle.state_dag.specs.Stands.{Stands}
use Rattle.ripple_commit.proofs.Ways.{children-stand, same_length, slot-at, first-found, one-more, none-found}
use Rattle.ripple_commit.proofs.first_passing.Goals as goal

pub returns-then-not-has_news-clause-first : goal.returns-then-not-has_news-clause-first
returns-then-not-has_news-clause-first c = λ rs ks stands x at out.
    let table = c.args.store.now.table in
    let slots = c.child_slots-children.result.now in
    let keys = guarded c.args.flags c.args.reads.now (keys_of c.args.writes.now) in
    let i = c.loop-place.place in
    let named : map (id_at table) slots ≡ map (λ z. Some z) (children rs x) =
    subst (λ t. map (id_at t) slots ≡ map (λ z. Some z) (children rs x)) c.dag.ensures
    (c.child_slots-children.ensures.stand_ins rs ks (subst (λ t. Stands t rs ks) (sym c.dag.ensures) stands.table) x
    (subst (λ t. id_at t c.args.from ≡ Some x) (sym c.dag.ensures) at)
    ∙ children-stand rs ks stands.table.dag stands.table.shared x out) in
    let long = same_length table slots (children rs x) named in
    let lt : i < length (children rs x) = omega (arith, long, c.loop-place-test.true) in
    let d : Slot = record { 0 = 0 } in
    let here = slot-at table slots (children rs x) named i d root c.loop-place-test.true in
    here
    ∙ sym (first-found rs ks keys x (children rs x) refl i root lt (c.loop-place.invariant rs ks stands x at out)
    (sym (ap not (sym (c.has_news.ensures rs ks stands x (get_or (children rs x) i root) at here) ∙ c.if-not-has_news.true))))

pub loop-place-preserved : goal.loop-place-preserved
loop-place-preserved c = λ rs ks stands x at out.
    let table = c.args.store.now.table in
    let slots = c.child_slots-children.result.now in
    let keys = guarded c.args.flags c.args.reads.now (keys_of c.args.writes.now) in
    let i = c.loop-place.place in
    let named : map (id_at table) slots ≡ map (λ z. Some z) (children rs x) =
    subst (λ t. map (id_at t) slots ≡ map (λ z. Some z) (children rs x)) c.dag.ensures
    (c.child_slots-children.ensures.stand_ins rs ks (subst (λ t. Stands t rs ks) (sym c.dag.ensures) stands.table) x
    (subst (λ t. id_at t c.args.from ≡ Some x) (sym c.dag.ensures) at)
    ∙ children-stand rs ks stands.table.dag stands.table.shared x out) in
    let long = same_length table slots (children rs x) named in
    let lt : i < length (children rs x) = omega (arith, long, c.loop-place-test.true) in
    let d : Slot = record { 0 = 0 } in
    let here = slot-at table slots (children rs x) named i d root c.loop-place-test.true in
    one-more rs ks keys x (children rs x) refl i root lt (c.loop-place.invariant rs ks stands x at out)
    (sym (ap not (sym (c.has_news.ensures rs ks stands x (get_or (children rs x) i root) at here) ∙ c.if-not-has_news.false)))

pub returns-clause-first : goal.returns-clause-first
returns-clause-first c = λ rs ks stands x at out.
    let table = c.args.store.now.table in
    let slots = c.child_slots-children.result.now in
    let keys = guarded c.args.flags c.args.reads.now (keys_of c.args.writes.now) in
    let named : map (id_at table) slots ≡ map (λ z. Some z) (children rs x) =
    subst (λ t. map (id_at t) slots ≡ map (λ z. Some z) (children rs x)) c.dag.ensures
    (c.child_slots-children.ensures.stand_ins rs ks (subst (λ t. Stands t rs ks) (sym c.dag.ensures) stands.table) x
    (subst (λ t. id_at t c.args.from ≡ Some x) (sym c.dag.ensures) at)
    ∙ children-stand rs ks stands.table.dag stands.table.shared x out) in
    let long = same_length table slots (children rs x) named in
    let all : length (children rs x) ≤ c.loop-place.place = omega (arith, long, c.loop-place-test.false) in
    none-found rs ks keys x (children rs x) refl c.loop-place.place all (c.loop-place.invariant rs ks stands x at out)
