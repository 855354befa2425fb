use Rattle.client_laws.proofs.Kept.{parent-reads-the-last, ancestor-reads-the-last, any-reads-the-last, sessions-stay-under-ceilings}
use Rattle.client_laws.proofs.Wrong.{forgotten-commits-break, forgotten-commits-break-ancestor, own-beginnings-break, forgotten-ceilings-break}
use Rattle.client_laws.proofs.sessions_read_their_own_commits.Goals as goal

pub returns-clause-parent : goal.returns-clause-parent
returns-clause-parent c = parent-reads-the-last

pub returns-clause-ancestor : goal.returns-clause-ancestor
returns-clause-ancestor c = ancestor-reads-the-last

pub returns-clause-any : goal.returns-clause-any
returns-clause-any c = any-reads-the-last

pub returns-clause-ceilings : goal.returns-clause-ceilings
returns-clause-ceilings c = sessions-stay-under-ceilings

pub returns-clause-forgotten_breaks : goal.returns-clause-forgotten_breaks
returns-clause-forgotten_breaks c = forgotten-commits-break

pub returns-clause-forgotten_breaks_ancestor : goal.returns-clause-forgotten_breaks_ancestor
returns-clause-forgotten_breaks_ancestor c = forgotten-commits-break-ancestor

pub returns-clause-own_breaks : goal.returns-clause-own_breaks
returns-clause-own_breaks c = own-beginnings-break

pub returns-clause-forgotten_breaks_ceilings : goal.returns-clause-forgotten_breaks_ceilings
returns-clause-forgotten_breaks_ceilings c = forgotten-ceilings-break
