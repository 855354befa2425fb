use Rattle.plain_checkpoint.proofs.Sites.{told-sites-are-sound, checkpoints-are-sound, told-sites-rest}
use Rattle.plain_checkpoint.proofs.Wrong.{forgotten-closed-breaks, forgotten-floors-break}
use Rattle.plain_checkpoint.proofs.checkpoints_tell_sound_sites.Goals as goal

pub returns-clause-site : goal.returns-clause-site
returns-clause-site c = told-sites-are-sound

pub returns-clause-whole : goal.returns-clause-whole
returns-clause-whole c = checkpoints-are-sound

pub returns-clause-rest : goal.returns-clause-rest
returns-clause-rest c = told-sites-rest

pub returns-clause-forgotten_closed_breaks : goal.returns-clause-forgotten_closed_breaks
returns-clause-forgotten_closed_breaks c = forgotten-closed-breaks

pub returns-clause-forgotten_floors_break : goal.returns-clause-forgotten_floors_break
returns-clause-forgotten_floors_break c = forgotten-floors-break
