use Rattle.client_laws.proofs.Refusals.{refusals-hide-nothing}
use Rattle.client_laws.proofs.Wrong.{ended-refused-break}
use Rattle.client_laws.proofs.refusals_hide_nothing.Goals as goal

pub returns-clause-as_not_sent : goal.returns-clause-as_not_sent
returns-clause-as_not_sent c = refusals-hide-nothing

pub returns-clause-ended_breaks : goal.returns-clause-ended_breaks
returns-clause-ended_breaks c = ended-refused-break
