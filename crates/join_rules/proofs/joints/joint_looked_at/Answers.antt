use Rattle.std.proofs.Common.{IfOk, sym, ap, subst, ◌∙◌}
use Rattle.state_dag.specs.Table.{id_at}
use Rattle.join_rules.specs.Searches.{IsJoint}
use Rattle.join_rules.proofs.JointLaws.{looked-at, passed-over}
use Rattle.join_rules.proofs.joints.joint_looked_at.Goals as goal

pub returns-then-are_looked_at : goal.returns-then-are_looked_at
returns-then-are_looked_at c = λ site stands sound x y ea eb two.
    let same = sym c.dag.ensures in
    let at = sym (c.are_looked_at.ensures x y (sym (ap (λ t. id_at t c.args.a) same) ∙ ea) (sym (ap (λ t. id_at t c.args.b) same) ∙ eb))
    ∙ c.if-are_looked_at.true in
    subst (λ o. IfOk c.joint_in_order.result (IsJoint o)) (looked-at c.args.turn c.args.rules.now site.dag (x, y) at)
    (c.joint_in_order.ensures site stands sound x y ea eb two)

pub returns-else-are_looked_at : goal.returns-else-are_looked_at
returns-else-are_looked_at c = λ site stands sound x y ea eb two.
    let same = sym c.dag.ensures in
    let over = sym (c.are_looked_at.ensures x y (sym (ap (λ t. id_at t c.args.a) same) ∙ ea) (sym (ap (λ t. id_at t c.args.b) same) ∙ eb))
    ∙ c.if-are_looked_at.false in
    passed-over c.args.turn c.args.rules.now site.dag (x, y) over
