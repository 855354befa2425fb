-- The buffers of a loop.
use Rattle.std.specs.Prelude.{◌≡◌, ℕ, ◌+◌, ◌≤◌, List, [], length}
use Rattle.tardis_base.specs.Sizes.{longest_frame, piece as longest_piece}
use Rattle.site_run.specs.declared.runs.Buffers.{Buffers}

-- no bytes are in use, and there is room for a longest answer, and a mebibyte more at most
pub record IsFresh {C : Type 0} (held : C → List ℕ) (b : Buffers C) (most : ℕ) : Type 0 where
  pub piece : length b.piece.items ≡ longest_piece
  pub cutter : held b.cutter ≡ []
  pub gathered : b.gathered.bytes ≡ []
  pub room : most ≤ b.gathered.room
  pub bounded : b.gathered.room ≤ longest_frame + most
