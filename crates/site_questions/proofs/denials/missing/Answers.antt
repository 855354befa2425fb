use Rattle.std.proofs.Common.{◌∙◌, sym}
use Rattle.site_questions.proofs.Kept.{collected-denied, unknown-denied}
use Rattle.site_questions.proofs.denials.missing.Goals as goal

pub returns-then-knows : goal.returns-then-knows
returns-then-knows c = λ site stands gone.
    collected-denied site c.args.state (sym (c.knows.ensures site.dag site.collected stands) ∙ c.if-knows.true) gone

pub returns-else-knows : goal.returns-else-knows
returns-else-knows c = λ site stands gone.
    unknown-denied site c.args.state (sym (c.knows.ensures site.dag site.collected stands) ∙ c.if-knows.false)
