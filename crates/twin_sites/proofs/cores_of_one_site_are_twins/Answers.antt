use Rattle.twin_sites.proofs.Rests.{cores-of-one-site-are-twins}
use Rattle.twin_sites.proofs.cores_of_one_site_are_twins.Goals as goal

pub returns : goal.returns
returns c = cores-of-one-site-are-twins
