use Rattle.std.proofs.Common.{◌≡◌, ◌∙◌, ◌+◌, ◌-◌, drop, length, Some, IsTrue, inl, inr, refl, sym, ap, subst, arith, false}
use Rattle.std.proofs.lemmas.List.{drop_all}
use Rattle.tardis_base.specs.Ids.{is_among}
use Rattle.plain_dag.specs.States.{arrival}
use Rattle.plain_dag.specs.Above.{is_above}
use Rattle.plain_dag.specs.Forks.{leaves}
use Rattle.plain_dag.specs.Collection.{stand_in}
use Rattle.plain_dag.proofs.Ids.{not-both, among-cases}
use Rattle.state_dag.specs.Table.{id_at}
use Rattle.state_dag.proofs.Standing.{slot-is_kept}
use Rattle.begin_rule.proofs.NamedStates.{named-next, named-length}
use Rattle.plain_dag.proofs.Rising.{leaves-rise}
use Rattle.begin_rule.proofs.Rising.{stands-behind}
use Rattle.begin_rule.proofs.Newest.{below-stand-in, some-leaf, newest-found}
use Rattle.begin_rule.proofs.newest_below.Goals as goal

pub loop-place-init : goal.loop-place-init
loop-place-init c = λ rs ks stands last known at z m.
    let len = named-length (id_at c.args.dag.now) c.leaf_slots-leaves.result.now (leaves rs) (c.leaf_slots-leaves.ensures.leaves rs ks stands) in
    not-both false (subst (λ ys. IsTrue (is_among z ys)) (drop_all (length c.leaf_slots-leaves.result.now) (leaves rs) (omega arith)) m) refl

pub loop-place-preserved : goal.loop-place-preserved
loop-place-preserved c = λ rs ks stands last known at z m.
    let table = c.args.dag.now in
    let i = c.loop-place.place - 1 in
    let more = c.loop-place-test.true in
    let n = named-next (id_at table) c.leaf_slots-leaves.result.now (leaves rs) i (record { 0 = 0 }) (c.leaf_slots-leaves.ensures.leaves rs ks stands)
    (let le = c.loop-place.auto.place in omega arith) in
    let place : i + 1 ≡ c.loop-place.place = omega arith in
    let kept = slot-is_kept table rs ks stands _ n.state n.named in
    let apart = sym (c.is_ancestor.ensures.above rs ks stands (stand_in rs ks last) n.state at n.named) ∙ c.if-is_ancestor.false in
    elim (among-cases z n.state (drop (i + 1) (leaves rs)) (subst (λ ys. IsTrue (is_among z ys)) n.next m)) [
      | inl is ↦ subst (λ w. is_above rs last w ≡ false) (sym is) (below-stand-in table rs ks stands last known n.state kept ∙ apart)
      | inr later ↦ c.loop-place.invariant rs ks stands last known at z (subst (λ k. IsTrue (is_among z (drop k (leaves rs)))) place later)
    ]

pub returns-then-is_ancestor-clause-newest : goal.returns-then-is_ancestor-clause-newest
returns-then-is_ancestor-clause-newest c = λ rs ks stands last known at.
    let table = c.args.dag.now in
    let i = c.loop-place.place - 1 in
    let more = c.loop-place-test.true in
    let n = named-next (id_at table) c.leaf_slots-leaves.result.now (leaves rs) i (record { 0 = 0 }) (c.leaf_slots-leaves.ensures.leaves rs ks stands)
    (let le = c.loop-place.auto.place in omega arith) in
    let place : i + 1 ≡ c.loop-place.place = omega arith in
    let kept = slot-is_kept table rs ks stands _ n.state n.named in
    let above = sym (c.is_ancestor.ensures.above rs ks stands (stand_in rs ks last) n.state at n.named) ∙ c.if-is_ancestor.true in
    n.named ∙ ap (λ z. Some z) (newest-found table rs ks stands last known n.state kept above (λ z m lt.
    let behind = stands-behind (arrival rs) (leaves rs) i n.state z (drop (i + 1) (leaves rs)) (leaves-rise rs stands.dag) n.next m lt in
    c.loop-place.invariant rs ks stands last known at z (subst (λ k. IsTrue (is_among z (drop k (leaves rs)))) place behind)))

pub returns-clause-newest : goal.returns-clause-newest
returns-clause-newest c = λ rs ks stands last known at.
    let end = c.loop-place-test.false in
    let first : c.loop-place.place ≡ 0 = omega arith in
    absurd (some-leaf c.args.dag.now rs ks stands last known
    (λ z m. c.loop-place.invariant rs ks stands last known at z (subst (λ k. IsTrue (is_among z (drop k (leaves rs)))) (sym first) m)))
