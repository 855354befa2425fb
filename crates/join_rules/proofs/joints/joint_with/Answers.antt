use Rattle.std.proofs.Common.{◌∙◌, ◌+◌, IsTrue, drop, refl, sym, subst, arith}
use Rattle.tardis_base.specs.Ids.{is_among}
use Rattle.state_dag.specs.Table.{id_at}
use Rattle.begin_rule.proofs.NamedStates.{named-next}
use Rattle.plain_dag.proofs.Ids.{among-first}
use Rattle.join_rules.proofs.JointLaws.{none-left, with-end, stops-with, goes-on-with, dropped-among}
use Rattle.join_rules.proofs.joints.joint_with.Goals as goal

pub loop-place-init : goal.loop-place-init
loop-place-init c = λ site stands sound x ys ex eys leaves. refl

pub returns-then-is_some : goal.returns-then-is_some
returns-then-is_some c = λ site stands sound x ys ex eys leaves.
    let i = c.loop-place.place in
    let at = named-next (id_at c.args.store.now.table) c.args.others.now ys i (record { 0 = 0 }) eys c.loop-place-test.true in
    let among = dropped-among i ys at.state (subst (λ zs. IsTrue (is_among at.state zs)) (sym at.next) (among-first at.state (drop (i + 1) ys))) in
    stops-with c.args.turn c.args.rules.now site.dag x at.state ys i (c.loop-place.invariant site stands sound x ys ex eys leaves) at.next
    c.in_ok-joint.joint (c.in_ok-joint.ensures site stands sound x at.state ex at.named (leaves at.state among)) (sym c.is_some.ensures ∙ c.if-is_some.true)

pub loop-place-preserved : goal.loop-place-preserved
loop-place-preserved c = λ site stands sound x ys ex eys leaves.
    let i = c.loop-place.place in
    let at = named-next (id_at c.args.store.now.table) c.args.others.now ys i (record { 0 = 0 }) eys c.loop-place-test.true in
    let among = dropped-among i ys at.state (subst (λ zs. IsTrue (is_among at.state zs)) (sym at.next) (among-first at.state (drop (i + 1) ys))) in
    goes-on-with c.args.turn c.args.rules.now site.dag x at.state ys i (c.loop-place.invariant site stands sound x ys ex eys leaves) at.next
    c.in_ok-joint.joint (c.in_ok-joint.ensures site stands sound x at.state ex at.named (leaves at.state among)) (sym c.is_some.ensures ∙ c.if-is_some.false)

pub returns : goal.returns
returns c = λ site stands sound x ys ex eys leaves.
    let none = none-left (id_at c.args.store.now.table) c.args.others.now ys eys c.loop-place.place (omega (arith, c.loop-place-test.false)) in
    (sym (with-end c.args.turn c.args.rules.now site.dag x ys c.loop-place.place (c.loop-place.invariant site stands sound x ys ex eys leaves) none), tt)
