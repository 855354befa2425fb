use Rattle.std.proofs.Common.{length, ap, ◌∙◌, arith}
use Rattle.site_log.proofs.Making.{text_short}
use Rattle.site_log.proofs.opens.begin.Goals as goal

pub make-requires : goal.make-requires
make-requires g c = record { short = omega (arith, ap length (c.as_slice.ensures.value ∙ c.in-Ok.ensures), text_short c.args.wanted.now c.requires.front) }

pub returns-in-Ok-make-clause-any_moment : goal.returns-in-Ok-make-clause-any_moment
returns-in-Ok-make-clause-any_moment g c = λ h.
    c.make.ensures.any_moment h c.args.wanted.now c.requires.front (c.as_slice.ensures.value ∙ c.in-Ok.ensures) (c.requires.new h) (c.requires.durable h)

pub returns-in-Ok-clause-any_moment : goal.returns-in-Ok-clause-any_moment
returns-in-Ok-clause-any_moment g c = λ h.
    c.make.ensures.any_moment h c.args.wanted.now c.requires.front (c.as_slice.ensures.value ∙ c.in-Ok.ensures) (c.requires.new h) (c.requires.durable h)
