-- The buffers of a durable run.
use Rattle.std.specs.Prelude.{◌≡◌, ℕ, []}
use Rattle.durable_run.specs.declared.buffers.TheConstants.{GATHERED}
use Rattle.durable_run.specs.declared.buffers.Buffers.{Buffers}

-- how many bytes of answers may be gathered
abbrev pub most_gathered : ℕ
most_gathered = GATHERED

-- no bytes are in use, and there is room for a mebibyte of answers and a longest one
pub record AreFresh (b : Buffers) : Type 0 where
  pub cutter : b.cutter ≡ []
  pub gathered : b.gathered.bytes ≡ []
  pub room : b.gathered.room ≡ most_gathered
