-- How long the frame at the front is.
use Rattle.std.specs.Prelude.{◌≡◌, ℕ, ◌+◌, ◌≤◌, List, ◌++◌, length, take, drop}
use Rattle.tardis_base.specs.Sizes.{longest_frame}
use Rattle.frame_cut.specs.declared.heads.Size.{Size}
use Rattle.frame_cut.specs.declared.heads.Size.TheVariants.{Body, Less, TooLong}
use Rattle.frame_cut.specs.Frames.{frame, IsPartial, IsLong}

-- how long the body of a whole frame at the front is, or that it isn't whole, or too long
abbrev pub IsSize : List ℕ → Size → Type 0
IsSize bytes (Body count) = (count ≤ longest_frame) × (4 + count ≤ length bytes) × (bytes ≡ frame (take count (drop 4 bytes)) ++ drop (4 + count) bytes)
IsSize bytes Less = IsPartial bytes
IsSize bytes (TooLong len) = IsLong bytes len
