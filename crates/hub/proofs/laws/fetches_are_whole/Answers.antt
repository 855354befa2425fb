use Rattle.hub.proofs.PeerTurns.{are_fair, are_whole}
use Rattle.hub.proofs.laws.fetches_are_whole.Goals as goal

pub returns-clause-fair : goal.returns-clause-fair
returns-clause-fair c = are_fair c.exchanges_are_whole.ensures.short

pub returns-clause-whole : goal.returns-clause-whole
returns-clause-whole c = are_whole c.exchanges_are_whole.ensures.whole
