use Rattle.client_laws.proofs.Laws.{serializable-reads-hold}
use Rattle.client_laws.proofs.Serial.{branches-are-serial}
use Rattle.client_laws.proofs.Wrong.{forgotten-reads-break, forgotten-reads-break-branches}
use Rattle.client_laws.proofs.serializable_transactions_read_what_their_place_shows.Goals as goal

pub returns-clause-reads : goal.returns-clause-reads
returns-clause-reads c = serializable-reads-hold

pub returns-clause-serial : goal.returns-clause-serial
returns-clause-serial c = branches-are-serial

pub returns-clause-forgotten_breaks : goal.returns-clause-forgotten_breaks
returns-clause-forgotten_breaks c = forgotten-reads-break

pub returns-clause-forgotten_breaks_branches : goal.returns-clause-forgotten_breaks_branches
returns-clause-forgotten_breaks_branches c = forgotten-reads-break-branches
