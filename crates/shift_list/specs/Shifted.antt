-- The items of a list, and for how many more there is room.
use Rattle.std.specs.Prelude.{ℕ, List}

pub record Shifted (T : Type 0) : Type 0 where
  pub items : List T
  pub room : ℕ
