use Rattle.std.proofs.Common.{take}
use Rattle.log_text.specs.Texts.{IsZeros}
use Rattle.site_log.proofs.makes.is_zeros.Given as goal

abbrev pub invariant-loop-byte : goal.invariant-loop-byte
invariant-loop-byte l = IsZeros (take l.byte-index l.bytes)
