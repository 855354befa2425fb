use Rattle.twin_sites.proofs.Rests.{sites-of-one-core-rest-alike}
use Rattle.twin_sites.proofs.sites_of_one_core_rest_alike.Goals as goal

pub returns : goal.returns
returns c = sites-of-one-core-rest-alike
