-- What a cutter answers.
use Rattle.std.specs.Prelude.{◌≡◌, ℕ, ◌+◌, List, ◌++◌, length, drop}
use Rattle.frame_cut.specs.declared.cutters.Cut.{Cut}
use Rattle.frame_cut.specs.declared.cutters.Cut.TheVariants.{Frame, NeedMore, Long}
use Rattle.frame_cut.specs.Frames.{frame, IsBody, IsPartial, IsLong}

-- what is next in these bytes
abbrev pub IsNext : List ℕ → Cut → Type 0
IsNext bytes (Frame body) = IsBody body.now × (bytes ≡ frame body.now ++ drop (4 + length body.now) bytes)
IsNext bytes NeedMore = IsPartial bytes
IsNext bytes (Long len) = IsLong bytes len

-- a frame that was handed out is gone, and all else is as before
abbrev pub Leaves : List ℕ → Cut → List ℕ → Type 0
Leaves old (Frame body) new = new ≡ drop (4 + length body.now) old
Leaves old NeedMore new = new ≡ old
Leaves old (Long len) new = new ≡ old
