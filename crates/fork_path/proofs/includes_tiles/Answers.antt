use Rattle.std.proofs.lemmas.Bool.{false≢true}
use Rattle.fork_path.proofs.includes_tiles.Goals as goal

pub returns-then-not-is_within-clause-inside : goal.returns-then-not-is_within-clause-inside
returns-then-not-is_within-clause-inside c = λ e. absurd (false≢true e)
