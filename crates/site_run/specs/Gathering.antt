-- Bytes that wait to be written.
use Rattle.std.specs.Prelude.{ℕ, List}

-- the bytes, and how many there may be
pub record Gathering : Type 0 where
  pub bytes : List ℕ
  pub room : ℕ
