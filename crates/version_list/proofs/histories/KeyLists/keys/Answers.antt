use Rattle.version_list.proofs.Adds.{listed-none}
use Rattle.version_list.proofs.histories.KeyLists.keys.Goals as goal

pub returns-clause-listed : goal.returns-clause-listed
returns-clause-listed c = λ k e. listed-none c.args.self.now k e
