use Rattle.join_rules.proofs.Exchanges.{exchanged}
use Rattle.join_rules.proofs.laws.sides_may_be_exchanged.Goals as goal

pub returns : goal.returns
returns c = exchanged
