-- Items are joined by commas.
use Rattle.std.proofs.Common.{◌≡◌, ℕ, true, List, [], ◌∷◌, ◌++◌, ◌∙◌, refl, append_assoc}
use Rattle.std.proofs.lemmas.Bool.{and_parts}
use Rattle.std.specs.List.{list_all, join_with_byte}
use Rattle.tardis_base.specs.Keys.{is_key_before, are_ascending_keys}
use Rattle.join_rules.specs.Values.{union, are_items}
use Rattle.join_rules.specs.Joining.{with_item}
use Rattle.join_rules.proofs.UnionLaws.{behind-first, all-union}

-- the text with each of these in turn
abbrev pub with_items : List ℕ → List (List ℕ) → List ℕ
with_items text [] = text
with_items text (x ∷ xs) = with_items (with_item text x) xs

glued : (t y : List ℕ) (ys : List (List ℕ)) → join_with_byte 44 ((t ++ (44 ∷ y)) ∷ ys) ≡ t ++ (44 ∷ join_with_byte 44 (y ∷ ys))
glued t y [] = refl
glued t y (z ∷ zs) = append_assoc t (44 ∷ y) (44 ∷ join_with_byte 44 (z ∷ zs))

joined-behind : (c : ℕ) (cs : List ℕ) (xs : List (List ℕ)) → with_items (c ∷ cs) xs ≡ join_with_byte 44 ((c ∷ cs) ∷ xs)
joined-behind c cs [] = refl
joined-behind c cs (y ∷ ys) = joined-behind c (cs ++ (44 ∷ y)) ys ∙ glued (c ∷ cs) y ys

pub joined : (xs : List (List ℕ)) → list_all (is_key_before []) xs ≡ true → with_items [] xs ≡ join_with_byte 44 xs
joined [] h = refl
joined ([] ∷ xs) h = absurd (cc)
joined ((c ∷ cs) ∷ xs) h = joined-behind c cs xs

pub union-joined : (xs ys : List (List ℕ)) → are_items xs ≡ true → are_items ys ≡ true → with_items [] (union xs ys) ≡ join_with_byte 44 (union xs ys)
union-joined xs ys h g = joined (union xs ys) (all-union (is_key_before []) xs ys (behind-first [] xs h) (behind-first [] ys g))

pub items-ascend : (xs : List (List ℕ)) → are_items xs ≡ true → are_ascending_keys xs ≡ true
items-ascend [] h = refl
items-ascend (x ∷ xs) h = (and_parts (is_key_before [] x) (are_ascending_keys (x ∷ xs)) h).1
