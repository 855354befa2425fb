-- Ascending items that are passed beside an item.
use Rattle.std.proofs.Common.{◌≡◌, ℕ, true, false, ◌||◌, List, [], ◌∷◌, refl, sym, ap, ap₂, ◌∙◌, subst, inl, inr, if◌then◌else◌}
use Rattle.std.specs.List.{list_all}
use Rattle.std.specs.Prelude.{bytes_eq}
use Rattle.std.proofs.lemmas.Bool.{and_parts, and_from, cases_Bool}
use Rattle.tardis_base.specs.Keys.{is_key_before, are_ascending_keys, is_key_among}
use Rattle.tardis_base.proofs.KeyOrder.{before-itself, before-back, before-trans, cases_key, bytes_eq-itself, bytes_eq-before, bytes_eq-after, ascending-parts}
use Rattle.join_rules.specs.Passing.{from_item, begins_with}
use Rattle.join_rules.proofs.UnionLaws.{behind-first}

from-passes : (i x : List ℕ) (xs : List (List ℕ)) → is_key_before x i ≡ true → from_item i (x ∷ xs) ≡ from_item i xs
from-passes i x xs e = ap (λ t. if t then from_item i xs else x ∷ xs) e

from-stops : (i x : List ℕ) (xs : List (List ℕ)) → is_key_before x i ≡ false → from_item i (x ∷ xs) ≡ x ∷ xs
from-stops i x xs e = ap (λ t. if t then from_item i xs else x ∷ xs) e

-- what stands before all of these is none of them
among-none : (k : List ℕ) (xs : List (List ℕ)) → list_all (is_key_before k) xs ≡ true → is_key_among k xs ≡ false
among-none k [] h = refl
among-none k (x ∷ xs) h =
    let p = and_parts (is_key_before k x) (list_all (is_key_before k) xs) h in
    ap₂ (λ s t. s || t) (bytes_eq-before k x p.0) (among-none k xs p.1)

-- where those before it are passed, it is the first if it is there
pub first-is : (k : List ℕ) (xs : List (List ℕ)) → are_ascending_keys xs ≡ true → begins_with k (from_item k xs) ≡ is_key_among k xs
first-is k [] h = refl
first-is k (x ∷ xs) h =
    elim (cases_key x k) [
      | inl b ↦
          ap (begins_with k) (from-passes k x xs b) ∙ first-is k xs (ascending-parts x xs h).1
          ∙ sym (ap (λ t. t || is_key_among k xs) (bytes_eq-after k x b))
      | inr other ↦
          elim other [
            | inl b ↦
                ap (begins_with k) (from-stops k x xs (before-back k x b)) ∙ bytes_eq-before k x b
                ∙ sym (among-none k (x ∷ xs) (behind-first k (x ∷ xs) (and_from (is_key_before k x) (are_ascending_keys (x ∷ xs)) b h)))
            | inr same ↦
                let here : bytes_eq k x ≡ true = subst (λ z. bytes_eq k z ≡ true) (sym same) (bytes_eq-itself k) in
                ap (begins_with k) (from-stops k x xs (subst (λ z. is_key_before x z ≡ false) same (before-itself x))) ∙ here
                ∙ sym (ap (λ t. t || is_key_among k xs) here)
          ]
    ]

-- of what stands behind the item nothing is passed
pub later-same : (i k : List ℕ) → is_key_before i k ≡ true → (xs : List (List ℕ)) → is_key_among k (from_item i xs) ≡ is_key_among k xs
later-same i k b [] = refl
later-same i k b (x ∷ xs) =
    elim (cases_Bool (is_key_before x i)) [
      | inl t ↦
          ap (is_key_among k) (from-passes i x xs t) ∙ later-same i k b xs
          ∙ sym (ap (λ s. s || is_key_among k xs) (bytes_eq-after k x (before-trans x i k t b)))
      | inr f ↦ ap (is_key_among k) (from-stops i x xs f)
    ]

pub from-ascends : (i : List ℕ) (xs : List (List ℕ)) → are_ascending_keys xs ≡ true → are_ascending_keys (from_item i xs) ≡ true
from-ascends i [] h = refl
from-ascends i (x ∷ xs) h =
    elim (cases_Bool (is_key_before x i)) [
      | inl t ↦ ap are_ascending_keys (from-passes i x xs t) ∙ from-ascends i xs (ascending-parts x xs h).1
      | inr f ↦ ap are_ascending_keys (from-stops i x xs f) ∙ h
    ]
