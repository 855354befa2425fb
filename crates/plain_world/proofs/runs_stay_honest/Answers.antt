use Rattle.plain_world.proofs.Runs.{runs-stay-honest}
use Rattle.plain_world.proofs.runs_stay_honest.Goals as goal

pub returns : goal.returns
returns c = runs-stay-honest c.talk_has_one_spelling.ensures.request
