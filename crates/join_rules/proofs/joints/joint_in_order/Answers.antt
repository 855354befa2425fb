use Rattle.std.proofs.Common.{sym, ap, subst, ◌∙◌}
use Rattle.std.proofs.lemmas.Option.{same_Some}
use Rattle.state_dag.specs.Table.{id_at}
use Rattle.join_rules.specs.declared.settling.Settled.TheVariants.{Values}
use Rattle.join_rules.specs.Settlings.{SettledAs}
use Rattle.join_rules.proofs.JointLaws.{may-be-settled, found-joint, wide-joint, unmerged-joint}
use Rattle.join_rules.proofs.joints.joint_in_order.Goals as goal

pub returns-in-Values : goal.returns-in-Values
returns-in-Values c = λ site stands sound x y ea eb two.
    let rules = c.args.rules.now in
    let settled = subst (SettledAs rules site.dag x y) c.in-Values.is
    (c.in_ok-writes.ensures site.dag site.collected stands x y ea eb (may-be-settled site sound x y two)) in
    let same = sym c.dag.ensures in
    found-joint site sound x y two rules c.joint_at.result
    (subst (λ ws. SettledAs rules site.dag x y (Values ws)) (sym c.joint_at.ensures.writes) settled)
    (same_Some x c.joint_at.result.first (sym ea ∙ (ap (λ t. id_at t c.args.a) same ∙ c.joint_at.ensures.first)))
    (same_Some y c.joint_at.result.second (sym eb ∙ (ap (λ t. id_at t c.args.b) same ∙ c.joint_at.ensures.second)))
    c.joint_at.ensures.valid

pub returns-in-Wide : goal.returns-in-Wide
returns-in-Wide c = λ site stands sound x y ea eb two.
    let settled = subst (SettledAs c.args.rules.now site.dag x y) c.in-Wide.is
    (c.in_ok-writes.ensures site.dag site.collected stands x y ea eb (may-be-settled site sound x y two)) in
    (wide-joint c.args.rules.now site.dag x y c.in-Wide.field-0 settled, tt)

pub returns : goal.returns
returns c = λ site stands sound x y ea eb two.
    let settled = subst (SettledAs c.args.rules.now site.dag x y) c.in-Unmerged.is
    (c.in_ok-writes.ensures site.dag site.collected stands x y ea eb (may-be-settled site sound x y two)) in
    (unmerged-joint c.args.rules.now site.dag x y c.in-Unmerged.field-0 settled, tt)
