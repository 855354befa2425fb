use Rattle.std.proofs.Common.{ℕ, replicate}
use Rattle.std.proofs.lemmas.List.{length-replicate}
use Rattle.site_log.proofs.Mixing.{zeros_of}
use Rattle.site_log.proofs.appends.write_zeros.Goals as goal

pub returns-clause-written : goal.returns-clause-written
returns-clause-written g c = λ h.
    (replicate 4096 0, (zeros_of 4096, length-replicate {A = ℕ} 4096 0, c.write_bytewise.ensures.written h, c.write_bytewise.ensures.crash h))
