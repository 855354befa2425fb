use Rattle.twin_sites.proofs.Going.{twins-stand-with-sessions}
use Rattle.twin_sites.proofs.twins_stand_with_sessions.Goals as goal

pub returns : goal.returns
returns c = twins-stand-with-sessions
