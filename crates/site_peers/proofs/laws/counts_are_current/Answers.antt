use Rattle.site_peers.proofs.Telling.{counts_are_current, the_met_were_met}
use Rattle.site_peers.proofs.laws.counts_are_current.Goals as goal

pub returns-clause-current : goal.returns-clause-current
returns-clause-current g c = λ s t reply lines answers are. counts_are_current g.M.Settling.plain s t reply lines answers are

pub returns-clause-met : goal.returns-clause-met
returns-clause-met g c = λ s t introduction bodies replies answers. the_met_were_met g.M.Settling.plain s t introduction bodies replies answers
