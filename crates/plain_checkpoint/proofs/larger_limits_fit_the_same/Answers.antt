use Rattle.plain_checkpoint.proofs.Larger.{larger-limits-fit, larger-limits-fit-all, floors-go-by-sites}
use Rattle.plain_checkpoint.proofs.Wrong.{filling-breaks, counting-breaks}
use Rattle.plain_checkpoint.proofs.larger_limits_fit_the_same.Goals as goal

pub returns-clause-part : goal.returns-clause-part
returns-clause-part c = larger-limits-fit

pub returns-clause-parts : goal.returns-clause-parts
returns-clause-parts c = larger-limits-fit-all

pub returns-clause-floors : goal.returns-clause-floors
returns-clause-floors c = floors-go-by-sites

pub returns-clause-filling_breaks : goal.returns-clause-filling_breaks
returns-clause-filling_breaks c = filling-breaks

pub returns-clause-counting_breaks : goal.returns-clause-counting_breaks
returns-clause-counting_breaks c = counting-breaks
