-- A key that is among ascending keys changes nothing there.
use Rattle.std.proofs.Common.{◌≡◌, ℕ, ◌+◌, ◌≤◌, true, false, List, [], ◌∷◌, length, refl, ◌∙◌, ap, subst, sym, inl, inr, arith}
use Rattle.std.specs.Str.{bytes_eq}
use Rattle.std.proofs.lemmas.Bool.{or_cases, both_ways, cases_lt}
use Rattle.std.proofs.lemmas.List.{length-map}
use Rattle.std.proofs.lemmas.Slice.Eq.{bytes_eq-Decides}
use Rattle.tardis_base.specs.declared.records.Write.{Write}
use Rattle.tardis_base.specs.Keys.{KeyWrite, is_key_before, are_ascending_keys, is_key_among, with_key, keys_of, has_key, with_write}
use Rattle.tardis_base.proofs.KeyOrder.{before-trans, ascending-parts}
use Rattle.tardis_base.proofs.KeySets.{with_key-after, with_key-here, with_key_cases}
use Rattle.tardis_base.proofs.WriteSets.{keys_of-with_write, has_key-keys_of}

-- the first of ascending keys is before each of the others
before-among : (l k : List ℕ) (ks : List (List ℕ)) → are_ascending_keys (l ∷ ks) ≡ true → is_key_among k ks ≡ true → is_key_before l k ≡ true
before-among l k [] up e = absurd (both_ways false refl e)
before-among l k (j ∷ js) up e =
    let parts = ascending-parts l (j ∷ js) up in
    elim (or_cases (bytes_eq k j) (is_key_among k js) e) [
      | inl same ↦ subst (λ z. is_key_before l z ≡ true) (sym ((bytes_eq-Decides k j).0 same)) parts.0
      | inr later ↦ before-trans l j k parts.0 (before-among j k js parts.1 later)
    ]

pub with_key-known : (k : List ℕ) (ks : List (List ℕ)) → are_ascending_keys ks ≡ true → is_key_among k ks ≡ true → with_key k ks ≡ ks
with_key-known k [] up e = absurd (both_ways false refl e)
with_key-known k (l ∷ ls) up e =
    elim (or_cases (bytes_eq k l) (is_key_among k ls) e) [
      | inl same ↦ subst (λ z. with_key k (z ∷ ls) ≡ z ∷ ls) ((bytes_eq-Decides k l).0 same) (with_key-here k ls)
      | inr later ↦ with_key-after k l ls (before-among l k ls up later) ∙ ap (λ zs. l ∷ zs) (with_key-known k ls (ascending-parts l ls up).1 later)
    ]

length-with_key : (k : List ℕ) (ks : List (List ℕ)) → length (with_key k ks) ≤ length ks + 1
length-with_key k [] = omega arith
length-with_key k (l ∷ ls) =
    with_key_cases k l ls (λ zs. length zs ≤ length (l ∷ ls) + 1)
    (λ _. omega arith)
    (λ _. omega (arith, length-with_key k ls))
    (λ _. omega arith)

-- with one more key they are at most n, if they were, and the key is there where they were n
pub few-with_key : (n : ℕ) (k : List ℕ) (ks : List (List ℕ)) → are_ascending_keys ks ≡ true → (length ks ≡ n → is_key_among k ks ≡ true) → length ks ≤ n →
    length (with_key k ks) ≤ n
few-with_key n k ks up full le =
    elim (cases_lt (length ks) n) [
      | inl lt ↦ omega (arith, length-with_key k ks)
      | inr ge ↦ subst (λ zs. length zs ≤ n) (sym (with_key-known k ks up (full (omega arith)))) le
    ]

-- with one more write they are at most n, if they were, and the key is written where they were n
pub few-with_write : (n : ℕ) (k : List ℕ) (w : Write) (ws : List KeyWrite) → are_ascending_keys (keys_of ws) ≡ true → (length ws ≡ n → has_key k ws ≡ true)
    → length ws ≤ n → length (with_write k w ws) ≤ n
few-with_write n k w ws up full le =
    let count : length (keys_of ws) ≡ length ws = length-map ws (λ (v : KeyWrite). v.0) in
    let after : length (with_key k (keys_of ws)) ≤ n =
    few-with_key n k (keys_of ws) up (λ e. sym (has_key-keys_of k ws) ∙ full (sym count ∙ e)) (subst (λ m. m ≤ n) (sym count) le) in
    let same : length (with_write k w ws) ≡ length (with_key k (keys_of ws)) =
    sym (length-map (with_write k w ws) (λ (v : KeyWrite). v.0)) ∙ ap (λ zs. length zs) (keys_of-with_write k w ws) in
    subst (λ m. m ≤ n) (sym same) after
