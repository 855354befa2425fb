-- Text in parts, with a comma between each two.
use Rattle.std.specs.Prelude.{ℕ, ◌==◌, List, [], ◌∷◌, Option, Some, None, if◌then◌else◌}

-- the parts with the byte before the first of them
abbrev pub with_byte : ℕ → List (List ℕ) → List (List ℕ)
with_byte c [] = (c ∷ []) ∷ []
with_byte c (p ∷ ps) = (c ∷ p) ∷ ps

-- the parts of the text between its commas; where it has no comma it is one part
abbrev pub parts : List ℕ → List (List ℕ)
parts [] = [] ∷ []
parts (c ∷ cs) =
    let rest = parts cs in
    if c == 44 then [] ∷ rest else with_byte c rest

-- those of the text that is left, if any is
abbrev pub parts_left : Option (List ℕ) → List (List ℕ)
parts_left None = []
parts_left (Some text) = parts text
