use Rattle.join_rules.proofs.joints.first_joint.Goals as goal

pub returns : goal.returns
returns c = c.first_settled.ensures
