use Rattle.std.proofs.Common.{ap, ◌∙◌, ◌==◌, length}
use Rattle.join_rules.proofs.Partings.{over}
use Rattle.join_rules.proofs.parts.Parts.is_over.Goals as goal

pub returns : goal.returns
returns c = over c.self.inside.left c.is_none.result c.is_none.ensures ∙ ap (λ ps. length ps == 0) c.self.view_is
