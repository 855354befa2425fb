use Rattle.std.proofs.Common.{IfOk, sym, ap, subst, ◌∙◌}
use Rattle.state_dag.specs.Table.{id_at}
use Rattle.join_rules.specs.Searches.{IsJoint}
use Rattle.join_rules.proofs.JointLaws.{straight, turned}
use Rattle.join_rules.proofs.LeafLaws.{different-in-order, different-exchanged}
use Rattle.join_rules.proofs.joints.joint_of.Goals as goal

pub returns-then-comes_first : goal.returns-then-comes_first
returns-then-comes_first c = λ site stands sound x y ea eb two.
    let same = sym c.dag.ensures in
    let before = sym (c.comes_first.ensures x y (sym (ap (λ t. id_at t c.args.a) same) ∙ ea) (sym (ap (λ t. id_at t c.args.b) same) ∙ eb)) ∙ c.if-comes_first.true in
    subst (λ o. IfOk c.joint_looked_at.result (IsJoint o)) (straight c.args.turn c.args.rules.now site.dag x y before)
    (c.joint_looked_at.ensures site stands sound x y ea eb (different-in-order site.dag x y two before))

pub returns-else-comes_first : goal.returns-else-comes_first
returns-else-comes_first c = λ site stands sound x y ea eb two.
    let same = sym c.dag.ensures in
    let behind = sym (c.comes_first.ensures x y (sym (ap (λ t. id_at t c.args.a) same) ∙ ea) (sym (ap (λ t. id_at t c.args.b) same) ∙ eb)) ∙ c.if-comes_first.false in
    subst (λ o. IfOk c.joint_looked_at-else-comes_first.result (IsJoint o)) (turned c.args.turn c.args.rules.now site.dag x y behind)
    (c.joint_looked_at-else-comes_first.ensures site stands sound y x eb ea (different-exchanged site.dag x y two behind))
