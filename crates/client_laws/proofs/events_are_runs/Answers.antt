use Rattle.client_laws.proofs.Events.{events-are-runs}
use Rattle.client_laws.proofs.events_are_runs.Goals as goal

pub returns : goal.returns
returns c = events-are-runs c.talk_has_one_spelling.ensures.request
