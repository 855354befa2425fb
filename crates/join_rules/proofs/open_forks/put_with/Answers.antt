use Rattle.std.proofs.Common.{◌∙◌, ◌+◌, IsTrue, drop, refl, sym, subst, arith}
use Rattle.tardis_base.specs.Ids.{is_among}
use Rattle.state_dag.specs.Table.{id_at}
use Rattle.begin_rule.proofs.NamedStates.{named-next}
use Rattle.plain_dag.proofs.Ids.{among-first}
use Rattle.join_rules.proofs.JointLaws.{none-left, dropped-among}
use Rattle.join_rules.proofs.ReasonLaws.{found-next, found-end}
use Rattle.join_rules.proofs.open_forks.put_with.Goals as goal

pub loop-place-init : goal.loop-place-init
loop-place-init c = λ site stands sound x ys ex eys leaves. refl

pub loop-place-preserved : goal.loop-place-preserved
loop-place-preserved c = λ site stands sound x ys ex eys leaves.
    let i = c.loop-place.place in
    let at = named-next (id_at c.args.store.now.table) c.args.others.now ys i (record { 0 = 0 }) eys c.loop-place-test.true in
    let among = dropped-among i ys at.state (subst (λ zs. IsTrue (is_among at.state zs)) (sym at.next) (among-first at.state (drop (i + 1) ys))) in
    found-next c.args.rules.now site.dag x at.state ys i c.args.found.now.items c.loop-place.found.items
    (c.loop-place.invariant site stands sound x ys ex eys leaves) at.next c.in_ok-two.two c.put.new.found.items
    (c.in_ok-two.ensures site stands sound x at.state ex at.named (leaves at.state among)) c.in_ok-put.ensures

pub returns : goal.returns
returns c = λ site stands sound x ys ex eys leaves.
    let none = none-left (id_at c.args.store.now.table) c.args.others.now ys eys c.loop-place.place (omega (arith, c.loop-place-test.false)) in
    found-end c.args.rules.now site.dag x ys c.loop-place.place c.args.found.now.items c.loop-place.found.items
    (c.loop-place.invariant site stands sound x ys ex eys leaves) none
