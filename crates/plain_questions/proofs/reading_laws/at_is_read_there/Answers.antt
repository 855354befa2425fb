use Rattle.plain_questions.proofs.Transactions.{at-is-read-there}
use Rattle.plain_questions.proofs.Collecting.{collecting-changes-no-read}
use Rattle.plain_questions.proofs.Staying.{requests-change-no-read}
use Rattle.plain_questions.proofs.Wrong.{newest-reads-break-stay, newest-reads-break, kept-alone-breaks}
use Rattle.plain_questions.proofs.reading_laws.at_is_read_there.Goals as goal

pub returns-clause-there : goal.returns-clause-there
returns-clause-there c = at-is-read-there

pub returns-clause-collecting : goal.returns-clause-collecting
returns-clause-collecting c = collecting-changes-no-read

pub returns-clause-last_arrived_breaks : goal.returns-clause-last_arrived_breaks
returns-clause-last_arrived_breaks c = newest-reads-break

pub returns-clause-kept_alone_breaks : goal.returns-clause-kept_alone_breaks
returns-clause-kept_alone_breaks c = kept-alone-breaks

pub returns-clause-requests : goal.returns-clause-requests
returns-clause-requests c = requests-change-no-read

pub returns-clause-last_arrived_breaks_stay : goal.returns-clause-last_arrived_breaks_stay
returns-clause-last_arrived_breaks_stay c = newest-reads-break-stay
