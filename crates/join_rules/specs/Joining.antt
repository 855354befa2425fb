-- A text of items that grows.
use Rattle.std.specs.Prelude.{ℕ, List, [], ◌∷◌, ◌++◌}

-- the text with another item: behind a comma, unless it is empty
abbrev pub with_item : List ℕ → List ℕ → List ℕ
with_item [] item = item
with_item (c ∷ cs) item = (c ∷ cs) ++ 44 ∷ item
