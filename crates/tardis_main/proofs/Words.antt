-- The limits of the program.
use Rattle.std.proofs.Common.{ℕ, ◌≤◌, IsTrue, refl}
use Rattle.std.proofs.lemmas.Bool.{le-leb}
use Rattle.tardis_base.specs.Valid.{are_limits}
use Rattle.command_words.specs.Places.{program_limits}

-- the program's limits are such
pub limits_hold : (sites : ℕ) → 1 ≤ sites → sites ≤ 16 → IsTrue (are_limits (program_limits sites))
limits_hold sites some most = rw (le-leb 1 sites some) (rw (le-leb sites 16 most) refl)
