-- The items of a list, and how many more fit without memory.
use Rattle.std.specs.Prelude.{ℕ, List}

pub record Roomy (T : Type 0) : Type 0 where
  pub items : List T
  pub room : ℕ
