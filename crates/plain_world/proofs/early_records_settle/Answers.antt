use Rattle.plain_world.proofs.Carried.{next-ones-are-fit, settles-are-answered}
use Rattle.plain_world.proofs.early_records_settle.Goals as goal

pub returns : goal.returns
returns c = record { fit = next-ones-are-fit; settles = settles-are-answered }
