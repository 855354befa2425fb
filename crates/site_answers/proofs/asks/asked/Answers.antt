use Rattle.std.proofs.Common.{Err, ap, ◌∙◌}
use Rattle.site_answers.proofs.Asking.{sure-takes_none}
use Rattle.site_answers.proofs.asks.asked.Goals as goal

pub returns-in-Err-NoMemory-clause-sure : goal.returns-in-Err-NoMemory-clause-sure
returns-in-Err-NoMemory-clause-sure c = λ q is sure.
    absurd (c.read_request.ensures.sure q is (sure-takes_none q sure) (c.in-Err-NoMemory.is ∙ ap Err c.in-Err-NoMemory.field-0-is))

pub returns-in-Err-NoMemory-clause-asked : goal.returns-in-Err-NoMemory-clause-asked
returns-in-Err-NoMemory-clause-asked c = tt
