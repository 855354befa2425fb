-- Laws of the cut.
use Rattle.std.specs.Prelude.{◌≡◌, ℕ, ◌<◌, List, ◌++◌, slice_index}
use Rattle.frame_cut.specs.Frames.{Cuts, IsCut}

-- two cuts of the same bytes are one
abbrev pub OneCut : Type 0
OneCut =
    (bytes : List ℕ) (bodies others : List (List ℕ)) (rest left : List ℕ)
    → IsCut bytes bodies rest → IsCut bytes others left → (bodies ≡ others) × (rest ≡ left)

-- all bytes have a cut
abbrev pub EveryCut : Type 0
EveryCut =
    (bytes : List ℕ) → ((place : ℕ) → slice_index bytes place < 256)
    → (bodies : List (List ℕ)) × ((rest : List ℕ) × IsCut bytes bodies rest)

-- bodies that were cut stay cut when more bytes come, which are then behind the rest
abbrev pub MoreBytes : Type 0
MoreBytes =
    (bytes more : List ℕ) (bodies : List (List ℕ)) (rest : List ℕ)
    → Cuts bytes bodies rest → Cuts (bytes ++ more) bodies (rest ++ more)

-- bodies that are cut from the rest come behind those that were cut before
abbrev pub MoreBodies : Type 0
MoreBodies =
    (bytes : List ℕ) (bodies others : List (List ℕ)) (rest left : List ℕ)
    → Cuts bytes bodies rest → Cuts rest others left → Cuts bytes (bodies ++ others) left

-- bodies that were cut from the front of the bytes are a front of those of their cut
abbrev pub FrontOfCut : Type 0
FrontOfCut =
    (bytes : List ℕ) (bodies all : List (List ℕ)) (rest left : List ℕ)
    → Cuts bytes bodies rest → IsCut bytes all left → (more : List (List ℕ)) × (all ≡ bodies ++ more)
