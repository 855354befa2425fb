-- The order of keys, and lists in that order.
use Rattle.std.proofs.Common.{◌≡◌, ℕ, ◌<◌, ◌⊎◌, Bool, true, false, List, [], ◌∷◌, ◌++◌, length, get_or, refl, sym, ◌∙◌, ap, subst, inl, inr, arith}
use Rattle.std.specs.declared.cmp.Ordering.{Ordering}
use Rattle.std.specs.declared.cmp.Ordering.TheVariants.{Less, Equal, Greater}
use Rattle.std.specs.Ordering.{nat_cmp, is_lt, is_eq, ordering_reverse}
use Rattle.std.specs.Cmp.Lexicographic.{slice_cmp}
use Rattle.std.specs.Str.{bytes_eq}
use Rattle.std.proofs.lemmas.Bool.{and_parts, and_from, both_ways, false_from_ne_true}
use Rattle.std.proofs.lemmas.Cmp.{nat_list_cmp_total, tied_itself}
use Rattle.std.proofs.lemmas.Map.Text.{is_eq-slice_cmp}
use Rattle.std.proofs.lemmas.Slice.Eq.{bytes_eq-Decides}
use Rattle.tardis_base.specs.Keys.{is_key_before, are_ascending_keys}

Less-from_is_lt : (o : Ordering) → is_lt o ≡ true → o ≡ Less
Less-from_is_lt Less e = refl
Less-from_is_lt Equal e = absurd (both_ways false refl e)
Less-from_is_lt Greater e = absurd (both_ways false refl e)

pub Less-from_before : (k l : List ℕ) → is_key_before k l ≡ true → slice_cmp nat_cmp k l ≡ Less
Less-from_before k l e = Less-from_is_lt (slice_cmp nat_cmp k l) e

pub Greater-from_before : (k l : List ℕ) → is_key_before k l ≡ true → slice_cmp nat_cmp l k ≡ Greater
Greater-from_before k l e = nat_list_cmp_total.antisymm l k ∙ ap ordering_reverse (Less-from_before k l e)

pub before-from_Less : (k l : List ℕ) → slice_cmp nat_cmp k l ≡ Less → is_key_before k l ≡ true
before-from_Less k l e = ap is_lt e

pub before-from_Greater : (k l : List ℕ) → slice_cmp nat_cmp k l ≡ Greater → is_key_before l k ≡ true
before-from_Greater k l e = ap is_lt (nat_list_cmp_total.antisymm l k ∙ ap ordering_reverse e)

pub same-from_Equal : (k l : List ℕ) → slice_cmp nat_cmp k l ≡ Equal → k ≡ l
same-from_Equal k l e = (bytes_eq-Decides k l).0 (sym (is_eq-slice_cmp k l) ∙ ap is_eq e)

-- no key is before itself
pub before-itself : (k : List ℕ) → is_key_before k k ≡ false
before-itself k = ap is_lt (tied_itself nat_list_cmp_total k)

-- of two keys at most one is before the other
pub before-back : (k l : List ℕ) → is_key_before k l ≡ true → is_key_before l k ≡ false
before-back k l e = ap is_lt (Greater-from_before k l e)

pub before-trans : (j k l : List ℕ) → is_key_before j k ≡ true → is_key_before k l ≡ true → is_key_before j l ≡ true
before-trans j k l e f =
    before-from_Less j l (nat_list_cmp_total.trans j k l (Less-from_before j k e) (Less-from_before k l f))

cases_Ordering : (k l : List ℕ) (o : Ordering) → slice_cmp nat_cmp k l ≡ o → (is_key_before k l ≡ true) ⊎ ((is_key_before l k ≡ true) ⊎ (k ≡ l))
cases_Ordering k l Less e = inl (before-from_Less k l e)
cases_Ordering k l Equal e = inr (inr (same-from_Equal k l e))
cases_Ordering k l Greater e = inr (inl (before-from_Greater k l e))

-- of two keys one is before the other, or they are the same
pub cases_key : (k l : List ℕ) → (is_key_before k l ≡ true) ⊎ ((is_key_before l k ≡ true) ⊎ (k ≡ l))
cases_key k l = cases_Ordering k l (slice_cmp nat_cmp k l) refl

pub bytes_eq-itself : (k : List ℕ) → bytes_eq k k ≡ true
bytes_eq-itself k = (bytes_eq-Decides k k).1 refl

pub bytes_eq-other : (k l : List ℕ) → (k ≡ l → ⊥) → bytes_eq k l ≡ false
bytes_eq-other k l other = false_from_ne_true (bytes_eq k l) (λ e. other ((bytes_eq-Decides k l).0 e))

-- a key that is before another is not the other
pub bytes_eq-before : (k l : List ℕ) → is_key_before k l ≡ true → bytes_eq k l ≡ false
bytes_eq-before k l e =
    bytes_eq-other k l (λ same. both_ways (is_key_before k l) (subst (λ z. is_key_before k z ≡ false) same (before-itself k)) e)

pub bytes_eq-after : (k l : List ℕ) → is_key_before l k ≡ true → bytes_eq k l ≡ false
bytes_eq-after k l e =
    bytes_eq-other k l (λ same. both_ways (is_key_before l k) (subst (λ z. is_key_before z k ≡ false) same (before-itself k)) e)

-- the key is before the first of these, if there is one
abbrev pub is_first : List ℕ → List (List ℕ) → Bool
is_first k [] = true
is_first k (l ∷ ls) = is_key_before k l

pub ascending-parts : (k : List ℕ) (ks : List (List ℕ)) → are_ascending_keys (k ∷ ks) ≡ true → (is_first k ks ≡ true) × (are_ascending_keys ks ≡ true)
ascending-parts k [] e = (refl, refl)
ascending-parts k (l ∷ ls) e = and_parts (is_key_before k l) (are_ascending_keys (l ∷ ls)) e

pub ascending-from : (k : List ℕ) (ks : List (List ℕ)) → is_first k ks ≡ true → are_ascending_keys ks ≡ true → are_ascending_keys (k ∷ ks) ≡ true
ascending-from k [] first rest = refl
ascending-from k (l ∷ ls) first rest = and_from (is_key_before k l) (are_ascending_keys (l ∷ ls)) first rest

-- the first of ascending keys is before each later one
pub before-later : (k : List ℕ) (ks : List (List ℕ)) (i : ℕ) (d : List ℕ) → are_ascending_keys (k ∷ ks) ≡ true → i < length ks →
    is_key_before k (get_or ks i d) ≡ true
before-later k [] i d up lt = absurd (omega arith)
before-later k (l ∷ ls) ℕ.zero d up lt = (ascending-parts k (l ∷ ls) up).0
before-later k (l ∷ ls) (ℕ.suc i) d up lt =
    let parts = ascending-parts k (l ∷ ls) up in
    before-trans k l (get_or ls i d) parts.0 (before-later l ls i d parts.1 (omega arith))

-- ascending keys followed by a later one ascend
pub ascending-push : (ks : List (List ℕ)) (l k : List ℕ) → are_ascending_keys (ks ++ l ∷ []) ≡ true → is_key_before l k ≡ true →
    are_ascending_keys ((ks ++ l ∷ []) ++ k ∷ []) ≡ true
ascending-push [] l k up e = and_from (is_key_before l k) true e refl
ascending-push (j ∷ []) l k up e =
    let parts = ascending-parts j (l ∷ []) up in
    ascending-from j (l ∷ k ∷ []) parts.0 (and_from (is_key_before l k) true e refl)
ascending-push (j ∷ i ∷ ks) l k up e =
    let parts = ascending-parts j (i ∷ ks ++ l ∷ []) up in
    ascending-from j (i ∷ (ks ++ l ∷ []) ++ k ∷ []) parts.0 (ascending-push (i ∷ ks) l k parts.1 e)
