use Rattle.std.proofs.Common.{◌<◌, ℕ}
use Rattle.site_log.proofs.Making.{IsLetter}
use Rattle.site_log.proofs.makes.is_name_in_part.Given as goal

abbrev pub invariant-loop-i : goal.invariant-loop-i
invariant-loop-i l = (n : ℕ) → n < l.i → IsLetter l.bytes n
