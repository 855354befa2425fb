use Rattle.merge_rules.proofs.EndLaws.{single-means-one-leaf, only-merges-change}
use Rattle.merge_rules.proofs.laws.auto_steps_merge_or_change_nothing.Goals as goal

pub returns-clause-single : goal.returns-clause-single
returns-clause-single c = single-means-one-leaf

pub returns-clause-others : goal.returns-clause-others
returns-clause-others c = only-merges-change
