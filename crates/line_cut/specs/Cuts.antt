-- What a cutter answers.
use Rattle.std.specs.Prelude.{◌≡◌, ℕ, ◌+◌, List, ◌++◌, length, drop}
use Rattle.line_cut.specs.declared.cutters.Cut.{Cut}
use Rattle.line_cut.specs.declared.cutters.Cut.TheVariants.{Line, NeedMore, Long}
use Rattle.line_cut.specs.Lines.{ended, IsLine, IsLong}

-- what is next in these bytes
abbrev pub IsNext : List ℕ → Cut → Type 0
IsNext bytes (Line line) = IsLine line.now × (bytes ≡ ended line.now ++ drop (length line.now + 1) bytes)
IsNext bytes NeedMore = IsLine bytes
IsNext bytes Long = IsLong bytes

-- a line that was handed out is gone with its line feed, and all else is as before
abbrev pub Leaves : List ℕ → Cut → List ℕ → Type 0
Leaves old (Line line) new = new ≡ drop (length line.now + 1) old
Leaves old NeedMore new = new ≡ old
Leaves old Long new = new ≡ old
