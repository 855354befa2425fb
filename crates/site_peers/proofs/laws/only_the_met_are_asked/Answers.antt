use Rattle.site_peers.proofs.Meeting.{only_the_met_are_asked}
use Rattle.site_peers.proofs.laws.only_the_met_are_asked.Goals as goal

pub returns : goal.returns
returns c = only_the_met_are_asked
