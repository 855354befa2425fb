-- Laws of the cut.
use Rattle.std.specs.Prelude.{◌≡◌, ℕ, List, ◌++◌}
use Rattle.line_cut.specs.Lines.{Cuts, IsCut}

-- two cuts of the same bytes are one
abbrev pub OneCut : Type 0
OneCut =
    (bytes : List ℕ) (lines others : List (List ℕ)) (rest left : List ℕ)
    → IsCut bytes lines rest → IsCut bytes others left → (lines ≡ others) × (rest ≡ left)

-- all bytes have a cut
abbrev pub EveryCut : Type 0
EveryCut = (bytes : List ℕ) → (lines : List (List ℕ)) × ((rest : List ℕ) × IsCut bytes lines rest)

-- lines that were cut stay cut when more bytes come, which are then behind the rest
abbrev pub MoreBytes : Type 0
MoreBytes =
    (bytes more : List ℕ) (lines : List (List ℕ)) (rest : List ℕ)
    → Cuts bytes lines rest → Cuts (bytes ++ more) lines (rest ++ more)

-- lines that are cut from the rest come behind those that were cut before
abbrev pub MoreLines : Type 0
MoreLines =
    (bytes : List ℕ) (lines others : List (List ℕ)) (rest left : List ℕ)
    → Cuts bytes lines rest → Cuts rest others left → Cuts bytes (lines ++ others) left

-- lines that were cut from the front of the bytes are a front of those of their cut
abbrev pub FrontOfCut : Type 0
FrontOfCut =
    (bytes : List ℕ) (lines all : List (List ℕ)) (rest left : List ℕ)
    → Cuts bytes lines rest → IsCut bytes all left → (more : List (List ℕ)) × (all ≡ lines ++ more)
