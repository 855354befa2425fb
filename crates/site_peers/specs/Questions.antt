-- A question to a peer.
use Rattle.std.specs.Prelude.{ℕ, List}

-- the bytes of the frame that asks the peer which weren't written yet, and the bytes that came since
pub record QuestionState : Type 0 where
  pub left : List ℕ
  pub came : List ℕ
