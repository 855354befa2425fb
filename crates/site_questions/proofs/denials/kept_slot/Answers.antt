use Rattle.site_questions.proofs.Kept.{named-told}
use Rattle.site_questions.proofs.denials.kept_slot.Goals as goal

pub returns-in-Some-clause-found : goal.returns-in-Some-clause-found
returns-in-Some-clause-found c = λ site stands.
    (c.in-Some.ensures.found, named-told c.args.dag.now site c.args.state c.in-Some.slot stands c.in-Some.ensures.found)
