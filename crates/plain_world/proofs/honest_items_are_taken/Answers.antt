use Rattle.plain_world.proofs.Carried.{carries-are-taken}
use Rattle.plain_world.proofs.honest_items_are_taken.Goals as goal

pub returns : goal.returns
returns c = carries-are-taken
