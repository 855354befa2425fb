-- What `with_key` and `is_key_among` do to ascending keys.
use Rattle.std.proofs.Common.{◌≡◌, ℕ, ◌<◌, ◌≤◌, Bool, true, List, [], ◌∷◌, ◌++◌, length, get_or, refl, sym, ◌∙◌, ap, subst, inl, inr, arith}
use Rattle.std.specs.declared.cmp.Ordering.TheVariants.{Less, Greater}
use Rattle.std.specs.Ordering.{nat_cmp}
use Rattle.std.specs.Cmp.Lexicographic.{slice_cmp}
use Rattle.std.specs.List.{AllWithin, insert, list_all}
use Rattle.std.proofs.lemmas.Bool.{and_parts, and_from}
use Rattle.tardis_base.specs.Keys.{is_key_before, are_ascending_keys, with_key}
use Rattle.tardis_base.proofs.KeyOrder.{is_first, cases_key, before-back, before-itself, before-trans, before-later, ascending-parts, ascending-from}
use Rattle.tardis_base.proofs.KeyOrder.{before-from_Less, before-from_Greater}

pub with_key-before : (k l : List ℕ) (ls : List (List ℕ)) → is_key_before k l ≡ true → with_key k (l ∷ ls) ≡ k ∷ l ∷ ls
with_key-before k l ls e = rw e refl

pub with_key-after : (k l : List ℕ) (ls : List (List ℕ)) → is_key_before l k ≡ true → with_key k (l ∷ ls) ≡ l ∷ with_key k ls
with_key-after k l ls e = rw (before-back l k e, e) refl

pub with_key-here : (k : List ℕ) (ls : List (List ℕ)) → with_key k (k ∷ ls) ≡ k ∷ ls
with_key-here k ls = rw (before-itself k) refl

-- where a key goes into keys that are not none
pub with_key_cases : (k l : List ℕ) (ls : List (List ℕ)) (P : List (List ℕ) → Type 0) → (is_key_before k l ≡ true → P (k ∷ l ∷ ls)) →
    (is_key_before l k ≡ true → P (l ∷ with_key k ls)) → (k ≡ l → P (k ∷ ls)) → P (with_key k (l ∷ ls))
with_key_cases k l ls P before after here =
    elim (cases_key k l) as (λ _. P (with_key k (l ∷ ls))) [
      | inl e ↦ subst P (sym (with_key-before k l ls e)) (before e)
      | inr (inl e) ↦ subst P (sym (with_key-after k l ls e)) (after e)
      | inr (inr e) ↦ subst (λ z. P (with_key k (z ∷ ls))) e (subst P (sym (with_key-here k ls)) (here e))
    ]

first-with_key : (j k : List ℕ) (ks : List (List ℕ)) → is_first j ks ≡ true → is_key_before j k ≡ true → is_first j (with_key k ks) ≡ true
first-with_key j k [] first e = e
first-with_key j k (l ∷ ls) first e = with_key_cases k l ls (λ zs. is_first j zs ≡ true) (λ _. e) (λ _. first) (λ _. e)

-- a key goes into ascending keys so that they ascend
pub ascending-with_key : (k : List ℕ) (ks : List (List ℕ)) → are_ascending_keys ks ≡ true → are_ascending_keys (with_key k ks) ≡ true
ascending-with_key k [] up = refl
ascending-with_key k (l ∷ ls) up =
    let parts = ascending-parts l ls up in
    with_key_cases k l ls (λ zs. are_ascending_keys zs ≡ true)
    (λ e. ascending-from k (l ∷ ls) e up)
    (λ e. ascending-from l (with_key k ls) (first-with_key l k ls parts.0 e) (ascending-with_key k ls parts.1))
    (λ e. subst (λ z. are_ascending_keys (z ∷ ls) ≡ true) (sym e) up)

-- what each key passes, each passes after a key that passes went in
pub all-with_key : (p : List ℕ → Bool) (k : List ℕ) (ks : List (List ℕ)) → p k ≡ true → list_all p ks ≡ true → list_all p (with_key k ks) ≡ true
all-with_key p k [] new old = and_from (p k) true new refl
all-with_key p k (l ∷ ls) new old =
    let parts = and_parts (p l) (list_all p ls) old in
    with_key_cases k l ls (λ zs. list_all p zs ≡ true)
    (λ _. and_from (p k) (list_all p (l ∷ ls)) new old)
    (λ _. and_from (p l) (list_all p (with_key k ls)) parts.0 (all-with_key p k ls new parts.1))
    (λ _. and_from (p k) (list_all p ls) new parts.1)

-- of ascending keys each is before the last
pub before-last : (l : List ℕ) (ks : List (List ℕ)) (k : List ℕ) → are_ascending_keys (l ∷ ks ++ k ∷ []) ≡ true → is_key_before l k ≡ true
before-last l [] k up = (ascending-parts l (k ∷ []) up).0
before-last l (j ∷ ks) k up =
    let parts = ascending-parts l (j ∷ ks ++ k ∷ []) up in
    before-trans l j k parts.0 (before-last j ks k parts.1)

-- a key behind all of ascending keys goes to their end
pub with_key-last : (ks : List (List ℕ)) (k : List ℕ) → are_ascending_keys (ks ++ k ∷ []) ≡ true → with_key k ks ≡ ks ++ k ∷ []
with_key-last [] k up = refl
with_key-last (l ∷ ls) k up =
    with_key-after k l ls (before-last l ls k up) ∙ ap (λ zs. l ∷ zs) (with_key-last ls k (ascending-parts l (ls ++ k ∷ []) up).1)

-- a key goes to the place that a search found, with smaller keys before it and larger ones from it on
pub with_key-insert : (k : List ℕ) (ks : List (List ℕ)) (i : ℕ) → i ≤ length ks → AllWithin (λ y. slice_cmp nat_cmp y k ≡ Less) ks 0 i →
    AllWithin (λ y. slice_cmp nat_cmp y k ≡ Greater) ks i (length ks) → with_key k ks ≡ insert ks i k
with_key-insert k [] ℕ.zero le below above = refl
with_key-insert k [] (ℕ.suc i) le below above = absurd (omega arith)
with_key-insert k (l ∷ ls) ℕ.zero le below above =
    with_key-before k l ls (before-from_Greater l k (above 0 l (omega arith) (omega arith)))
with_key-insert k (l ∷ ls) (ℕ.suc i) le below above =
    with_key-after k l ls (before-from_Less l k (below 0 l (omega arith) (omega arith)))
    ∙ ap (λ zs. l ∷ zs)
    (with_key-insert k ls i (omega arith) (λ j d lo hi. below (ℕ.suc j) d (omega arith) (omega arith))
    (λ j d lo hi. above (ℕ.suc j) d (omega arith) (omega arith)))

-- a key that is there changes nothing
pub with_key-found : (k : List ℕ) (ks : List (List ℕ)) (i : ℕ) → are_ascending_keys ks ≡ true → i < length ks → get_or ks i k ≡ k → with_key k ks ≡ ks
with_key-found k [] i up lt e = absurd (omega arith)
with_key-found k (l ∷ ls) ℕ.zero up lt e = subst (λ z. with_key k (z ∷ ls) ≡ z ∷ ls) (sym e) (with_key-here k ls)
with_key-found k (l ∷ ls) (ℕ.suc i) up lt e =
    let before : is_key_before l k ≡ true = subst (λ z. is_key_before l z ≡ true) e (before-later l ls i k up (omega arith)) in
    with_key-after k l ls before ∙ ap (λ zs. l ∷ zs) (with_key-found k ls i (ascending-parts l ls up).1 (omega arith) e)
