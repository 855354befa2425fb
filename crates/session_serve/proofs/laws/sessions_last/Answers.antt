use Rattle.session_serve.proofs.Served.{longer_keeps_session, longer_keeps_outcome, session_ascends}
use Rattle.session_serve.proofs.laws.sessions_last.Goals as goal

pub returns-clause-sessions : goal.returns-clause-sessions
returns-clause-sessions g c = longer_keeps_session g.M.Machine.plain

pub returns-clause-outcomes : goal.returns-clause-outcomes
returns-clause-outcomes g c = longer_keeps_outcome g.M.Machine.plain

pub returns-clause-places : goal.returns-clause-places
returns-clause-places g c = session_ascends g.M.Machine.plain
