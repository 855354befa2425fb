-- Ascending items that are passed beside an item.
use Rattle.std.specs.Prelude.{ℕ, Bool, false, ◌&&◌, true, bytes_eq, List, [], ◌∷◌, if◌then◌else◌}
use Rattle.tardis_base.specs.Keys.{is_key_before}

-- without those that stand before the item
abbrev pub from_item : List ℕ → List (List ℕ) → List (List ℕ)
from_item item [] = []
from_item item (x ∷ xs) =
    let rest = from_item item xs in
    if is_key_before x item then rest else x ∷ xs

-- the item is the first of them
abbrev pub begins_with : List ℕ → List (List ℕ) → Bool
begins_with item [] = false
begins_with item (x ∷ xs) = bytes_eq item x

-- the item stays, where it is the first of each of these sets that has it
abbrev pub stays_first : List (List ℕ) → List (List ℕ) → List (List ℕ) → List ℕ → Bool
stays_first base xs ys item = if begins_with item base then begins_with item xs && begins_with item ys else true
