use Rattle.plain_world.proofs.Truths.{sites-agree}
use Rattle.plain_world.proofs.honest_sites_agree.Goals as goal

pub returns : goal.returns
returns c = sites-agree
