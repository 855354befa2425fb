-- Lines, and the cut of bytes into them.
use Rattle.std.specs.Prelude.{◌≡◌, ◌≢◌, ℕ, ◌<◌, ◌≤◌, List, [], ◌∷◌, ◌++◌, length, ◌⊎◌, flat_map, slice_index}
use Rattle.std.specs.List.{AllByRecursion}
use Rattle.tardis_base.specs.Sizes.{longest_frame}

-- no byte is a line feed
abbrev pub HasNoFeed : List ℕ → Type 0
HasNoFeed bytes = (place : ℕ) → place < length bytes → slice_index bytes place ≢ 10

-- at most 1,048,576 bytes without a line feed
abbrev pub IsLine : List ℕ → Type 0
IsLine line = HasNoFeed line × (length line ≤ longest_frame)

-- a line and the line feed that ends it
unfoldable pub ended : List ℕ → List ℕ
ended line = line ++ 10 ∷ []

-- lines, each with its line feed, in order
abbrev pub texts : List (List ℕ) → List ℕ
texts lines = flat_map ended lines

-- more than 1,048,576 bytes are there, and none of the first 1,048,577 is a line feed
abbrev pub IsLong : List ℕ → Type 0
IsLong bytes = (longest_frame < length bytes) × ((place : ℕ) → place ≤ longest_frame → slice_index bytes place ≢ 10)

-- no line and its line feed are next
abbrev pub IsEnd : List ℕ → Type 0
IsEnd bytes = IsLine bytes ⊎ IsLong bytes

-- the bytes are these lines, each with its line feed, and then the rest
pub record Cuts (bytes : List ℕ) (lines : List (List ℕ)) (rest : List ℕ) : Type 0 where
  pub whole : bytes ≡ texts lines ++ rest
  pub each : AllByRecursion IsLine lines

-- the cut of the bytes: the lines that a line feed ends, up to where none is next
pub record IsCut (bytes : List ℕ) (lines : List (List ℕ)) (rest : List ℕ) : Type 0 where
  pub cuts : Cuts bytes lines rest
  pub ends : IsEnd rest

-- what stands behind the last line feed is a line where it isn't empty
abbrev pub last_line : List ℕ → List (List ℕ)
last_line [] = []
last_line (b ∷ bs) = (b ∷ bs) ∷ []
