use Rattle.rest_laws.proofs.Adds.{requests-add-what-lasts, others-add-nothing, nothing-lasts-of-others}
use Rattle.rest_laws.proofs.Seen.{what-lasts-is-seen}
use Rattle.rest_laws.proofs.Wrong.{told-floors-break, unseen-floors-break, unseen-floors-break-others, unseen-floors-break-sight}
use Rattle.rest_laws.proofs.requests_add_what_lasts.Goals as goal

pub returns-clause-adds : goal.returns-clause-adds
returns-clause-adds c = requests-add-what-lasts

pub returns-clause-nothing : goal.returns-clause-nothing
returns-clause-nothing c = others-add-nothing

pub returns-clause-others : goal.returns-clause-others
returns-clause-others c = nothing-lasts-of-others

pub returns-clause-seen : goal.returns-clause-seen
returns-clause-seen c = what-lasts-is-seen

pub returns-clause-told_breaks : goal.returns-clause-told_breaks
returns-clause-told_breaks c = told-floors-break

pub returns-clause-unseen_breaks : goal.returns-clause-unseen_breaks
returns-clause-unseen_breaks c = unseen-floors-break

pub returns-clause-unseen_breaks_others : goal.returns-clause-unseen_breaks_others
returns-clause-unseen_breaks_others c = unseen-floors-break-others

pub returns-clause-unseen_breaks_sight : goal.returns-clause-unseen_breaks_sight
returns-clause-unseen_breaks_sight c = unseen-floors-break-sight
