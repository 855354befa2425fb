-- The union of two sets.
use Rattle.std.proofs.Common.{◌≡◌, ℕ, Bool, true, List, [], ◌∷◌, ap, sym, ◌∙◌, subst, refl, inl, inr, ap₂}
use Rattle.std.specs.Ordering.{nat_cmp}
use Rattle.std.specs.Cmp.Lexicographic.{slice_cmp}
use Rattle.std.specs.declared.cmp.Ordering.TheVariants.{Less, Equal, Greater}
use Rattle.std.proofs.lemmas.Bool.{and_parts, and_from}
use Rattle.std.specs.List.{list_all}
use Rattle.tardis_base.specs.Keys.{is_key_before, are_ascending_keys, with_key}
use Rattle.tardis_base.proofs.KeyOrder.{before-trans, cases_key, ascending-parts, before-from_Less, before-from_Greater, same-from_Equal}
use Rattle.tardis_base.proofs.KeySets.{with_key-before, with_key-after, with_key-here, all-with_key, ascending-with_key}
use Rattle.join_rules.specs.Values.{union}

-- what stands behind l stands behind each that stands before l
further : (k l : List ℕ) (ls : List (List ℕ)) → is_key_before k l ≡ true → list_all (is_key_before l) ls ≡ true → list_all (is_key_before k) ls ≡ true
further k l [] b h = refl
further k l (m ∷ ms) b h =
    let p = and_parts (is_key_before l m) (list_all (is_key_before l) ms) h in
    and_from (is_key_before k m) (list_all (is_key_before k) ms) (before-trans k l m b p.0) (further k l ms b p.1)

pub behind-first : (k : List ℕ) (ks : List (List ℕ)) → are_ascending_keys (k ∷ ks) ≡ true → list_all (is_key_before k) ks ≡ true
behind-first k [] h = refl
behind-first k (l ∷ ls) h =
    let p = and_parts (is_key_before k l) (are_ascending_keys (l ∷ ls)) h in
    and_from (is_key_before k l) (list_all (is_key_before k) ls) p.0 (further k l ls p.0 (behind-first l ls p.1))

pub all-union : (p : List ℕ → Bool) (xs ys : List (List ℕ)) → list_all p xs ≡ true → list_all p ys ≡ true → list_all p (union xs ys) ≡ true
all-union p [] ys h g = g
all-union p (x ∷ xs) ys h g =
    let q = and_parts (p x) (list_all p xs) h in
    all-with_key p x (union xs ys) q.0 (all-union p xs ys q.1 g)

pub ascending-union : (xs ys : List (List ℕ)) → are_ascending_keys ys ≡ true → are_ascending_keys (union xs ys) ≡ true
ascending-union [] ys h = h
ascending-union (x ∷ xs) ys h = ascending-with_key x (union xs ys) (ascending-union xs ys h)

with_key-least : (k : List ℕ) (ks : List (List ℕ)) → list_all (is_key_before k) ks ≡ true → with_key k ks ≡ k ∷ ks
with_key-least k [] h = refl
with_key-least k (l ∷ ls) h = with_key-before k l ls (and_parts (is_key_before k l) (list_all (is_key_before k) ls) h).0

pub union-nil : (xs : List (List ℕ)) → are_ascending_keys xs ≡ true → union xs [] ≡ xs
union-nil [] h = refl
union-nil (x ∷ xs) h = ap (with_key x) (union-nil xs (ascending-parts x xs h).1) ∙ with_key-least x xs (behind-first x xs h)

pub union-less : (x : List ℕ) (xs : List (List ℕ)) (y : List ℕ) (ys : List (List ℕ)) → are_ascending_keys (x ∷ xs) ≡ true → are_ascending_keys (y ∷ ys)
    ≡ true → is_key_before x y ≡ true →
    union (x ∷ xs) (y ∷ ys) ≡ x ∷ union xs (y ∷ ys)
union-less x xs y ys h g b =
    with_key-least x (union xs (y ∷ ys))
    (all-union (is_key_before x) xs (y ∷ ys) (behind-first x xs h)
    (and_from (is_key_before x y) (list_all (is_key_before x) ys) b (further x y ys b (behind-first y ys g))))

-- an item that stands before all on the left comes first
union-first : (y : List ℕ) (xs ys : List (List ℕ)) → list_all (is_key_before y) xs ≡ true → union xs (y ∷ ys) ≡ y ∷ union xs ys
union-first y [] ys h = refl
union-first y (x ∷ xs) ys h =
    let p = and_parts (is_key_before y x) (list_all (is_key_before y) xs) h in
    ap (with_key x) (union-first y xs ys p.1) ∙ with_key-after x y (union xs ys) p.0

pub union-more : (x : List ℕ) (xs : List (List ℕ)) (y : List ℕ) (ys : List (List ℕ)) → are_ascending_keys (x ∷ xs) ≡ true → is_key_before y x ≡ true →
    union (x ∷ xs) (y ∷ ys) ≡ y ∷ union (x ∷ xs) ys
union-more x xs y ys h b = union-first y (x ∷ xs) ys (and_from (is_key_before y x) (list_all (is_key_before y) xs) b (further y x xs b (behind-first x xs h)))

pub union-same : (x : List ℕ) (xs ys : List (List ℕ)) → are_ascending_keys (x ∷ xs) ≡ true → union (x ∷ xs) (x ∷ ys) ≡ x ∷ union xs ys
union-same x xs ys h = ap (with_key x) (union-first x xs ys (behind-first x xs h)) ∙ with_key-here x (union xs ys)

-- ===== The first item

module _ (l r left right : List (List ℕ)) where
  pub first-less : (again : List (List ℕ)) (a b : List ℕ) → are_ascending_keys l ≡ true → are_ascending_keys r ≡ true → l ≡ a ∷ left → r ≡ b ∷ right →
      again ≡ r → slice_cmp nat_cmp a b ≡ Less →
      union l r ≡ a ∷ union left again
  first-less again a b h g el er same less =
      ap₂ union el er ∙ union-less a left b right (subst (λ z. are_ascending_keys z ≡ true) el h) (subst (λ z. are_ascending_keys z ≡ true) er g)
      (before-from_Less a b less)
      ∙ ap (λ z. a ∷ union left z) (sym (same ∙ er))

  pub first-same : (a b : List ℕ) → are_ascending_keys l ≡ true → l ≡ a ∷ left → r ≡ b ∷ right → slice_cmp nat_cmp a b ≡ Equal → union l r ≡ a
      ∷ union left right
  first-same a b h el er equal =
      ap₂ union el (er ∙ ap (λ z. z ∷ right) (sym (same-from_Equal a b equal))) ∙ union-same a left right (subst (λ z. are_ascending_keys z ≡ true) el h)

  pub first-more : (again : List (List ℕ)) (a b : List ℕ) → are_ascending_keys l ≡ true → l ≡ a ∷ left → r ≡ b ∷ right → again ≡ l → slice_cmp nat_cmp a b
      ≡ Greater →
      union l r ≡ b ∷ union again right
  first-more again a b h el er same more =
      ap₂ union el er ∙ union-more a left b right (subst (λ z. are_ascending_keys z ≡ true) el h) (before-from_Greater a b more)
      ∙ ap (λ z. b ∷ union z right) (sym (same ∙ el))

-- where the right side has no item
pub first-alone : (l r : List (List ℕ)) → are_ascending_keys l ≡ true → r ≡ [] → union l r ≡ l
first-alone l r h e = ap (union l) e ∙ union-nil l h

-- ===== The sides exchanged

with-first : (x : List ℕ) (xs : List (List ℕ)) → ((zs : List (List ℕ)) → are_ascending_keys zs ≡ true → union xs zs ≡ union zs xs) →
    are_ascending_keys (x ∷ xs) ≡ true →
    (ys : List (List ℕ)) → are_ascending_keys ys ≡ true → union (x ∷ xs) ys ≡ union ys (x ∷ xs)
with-first x xs sooner h [] g = union-nil (x ∷ xs) h
with-first x xs sooner h (y ∷ ys) g =
    let later = with-first x xs sooner h ys (ascending-parts y ys g).1 in
    elim (cases_key x y) [
      | inl b ↦ union-less x xs y ys h g b ∙ ap (λ zs. x ∷ zs) (sooner (y ∷ ys) g) ∙ sym (union-more y ys x xs g b)
      | inr other ↦
          elim other [
            | inl b ↦ union-more x xs y ys h b ∙ ap (λ zs. y ∷ zs) later ∙ sym (union-less y ys x xs g h b)
            | inr same ↦
                let gx : are_ascending_keys (x ∷ ys) ≡ true = subst (λ z. are_ascending_keys (z ∷ ys) ≡ true) (sym same) g in
                subst (λ z. union (x ∷ xs) (z ∷ ys) ≡ union (z ∷ ys) (x ∷ xs)) same
                (union-same x xs ys h ∙ ap (λ zs. x ∷ zs) (sooner ys (ascending-parts y ys g).1) ∙ sym (union-same x ys xs gx))
          ]
    ]

pub union-exchanged : (xs ys : List (List ℕ)) → are_ascending_keys xs ≡ true → are_ascending_keys ys ≡ true → union xs ys ≡ union ys xs
union-exchanged [] ys h g = sym (union-nil ys g)
union-exchanged (x ∷ xs) ys h g = with-first x xs (λ zs k. union-exchanged xs zs (ascending-parts x xs h).1 k) h ys g
