use Rattle.client_laws.proofs.Laws.{snapshots-overwrite-nothing-unseen}
use Rattle.client_laws.proofs.Wrong.{forgotten-constraints-break}
use Rattle.client_laws.proofs.snapshots_overwrite_nothing_unseen.Goals as goal

pub returns-clause-unseen : goal.returns-clause-unseen
returns-clause-unseen c = snapshots-overwrite-nothing-unseen

pub returns-clause-forgotten_breaks : goal.returns-clause-forgotten_breaks
returns-clause-forgotten_breaks c = forgotten-constraints-break
