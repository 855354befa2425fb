use Rattle.std.proofs.Common.{is_some, ap, ◌∙◌}
use Rattle.join_rules.proofs.joints.is_for_others.Goals as goal

pub returns-in-Ok : goal.returns-in-Ok
returns-in-Ok c = λ site stands sound. c.is_some.ensures ∙ ap is_some (c.in-Ok.ensures site stands sound).0
