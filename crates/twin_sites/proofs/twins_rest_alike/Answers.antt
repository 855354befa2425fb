use Rattle.twin_sites.proofs.Rests.{twins-rest-alike}
use Rattle.twin_sites.proofs.twins_rest_alike.Goals as goal

pub returns : goal.returns
returns c = twins-rest-alike
