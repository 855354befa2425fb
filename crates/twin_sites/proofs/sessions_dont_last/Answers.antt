use Rattle.twin_sites.proofs.Rests.{sessions-dont-last}
use Rattle.twin_sites.proofs.sessions_dont_last.Goals as goal

pub returns : goal.returns
returns c = sessions-dont-last
