use Rattle.join_rules.proofs.JoinLaws.{joins-keep-sound, joins-add-what-lasts, what-lasts-of-joins-is-seen, what-lasts-of-joins-fits, nothing-else-joins, others-are-as-before, joins-take-a-leaf, joined-only-within-patience}
use Rattle.join_rules.proofs.laws.joins_are_records.Goals as goal

pub returns-clause-sound : goal.returns-clause-sound
returns-clause-sound c = joins-keep-sound

pub returns-clause-adds : goal.returns-clause-adds
returns-clause-adds c = joins-add-what-lasts

pub returns-clause-seen : goal.returns-clause-seen
returns-clause-seen c = what-lasts-of-joins-is-seen

pub returns-clause-fits : goal.returns-clause-fits
returns-clause-fits c = what-lasts-of-joins-fits

pub returns-clause-nothing : goal.returns-clause-nothing
returns-clause-nothing c = nothing-else-joins

pub returns-clause-others : goal.returns-clause-others
returns-clause-others c = others-are-as-before

pub returns-clause-leaf : goal.returns-clause-leaf
returns-clause-leaf c = joins-take-a-leaf

pub returns-clause-patience : goal.returns-clause-patience
returns-clause-patience c = joined-only-within-patience
