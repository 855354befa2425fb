-- The least of the keys that pass.
use Rattle.std.proofs.Common.{◌≡◌, ℕ, ◌+◌, ◌<◌, Bool, true, ◌&&◌, ◌||◌, List, [], ◌∷◌, length, take, get_or, find, Option, Some, None, IsTrue, IsFalse, ◌⊎◌}
use Rattle.std.proofs.Common.{inl, inr, refl, sym, ap, subst, ◌∙◌, bytes_eq}
use Rattle.std.proofs.lemmas.Bool.{and_parts, and_from, or_cases, or_left, or_right, cases_Bool, both_ways, cond-true, cond-false, false_from_ne_true}
use Rattle.std.proofs.lemmas.List.Folds.{list_any_more}
use Rattle.tardis_base.specs.Keys.{is_key_before, are_ascending_keys, is_key_among}
use Rattle.tardis_base.proofs.KeyOrder.{before-itself, before-back, before-trans}
use Rattle.plain_dag.proofs.Ids.{not-both}
use Rattle.plain_dag.proofs.Keys.{same-key, same-key-from, ascending-parts, key-before-transitive}
use Rattle.conflict_keys.specs.Opens.{IsLeast, is_less}

-- ===== More keys

-- what is one of one more key is one of them or that key
pub among-next : (keys : List (List ℕ)) (i : ℕ) (key k : List ℕ) → i < length keys → key ≡ get_or keys i key → IsTrue (is_key_among k (take (i + 1) keys))
    → IsTrue (is_key_among k (take i keys)) ⊎ (k ≡ key)
among-next keys i key k lt is m = elim (or_cases (is_key_among k (take i keys)) (bytes_eq k (get_or keys i key))
    (sym (list_any_more (bytes_eq k) keys i key lt) ∙ m)) [
      | inl old ↦ inl old
      | inr new ↦ inr (same-key k (get_or keys i key) new ∙ sym is)
    ]

-- so what was met and is one of these was met before or is that key
pub met-next : (met : List ℕ → Bool) (keys : List (List ℕ)) (i : ℕ) (key k : List ℕ) → i < length keys → key ≡ get_or keys i key →
    IsTrue (met k || is_key_among k (take (i + 1) keys)) → IsTrue (met k || is_key_among k (take i keys)) ⊎ (k ≡ key)
met-next met keys i key k lt is m = elim (or_cases (met k) (is_key_among k (take (i + 1) keys)) m) [
  | inl old ↦ inl (or_left (met k) (is_key_among k (take i keys)) old)
  | inr new ↦ elim (among-next keys i key k lt is new) [
    | inl earlier ↦ inl (or_right (met k) (is_key_among k (take i keys)) earlier)
    | inr here ↦ inr here
  ]
]

module _ (p met more : List ℕ → Bool) where
  -- of fewer keys it is the least too
  pub least-of_fewer : (o : Option (List ℕ)) → ((k : List ℕ) → IsTrue (more k) → IsTrue (met k)) → IsLeast p met o → IsLeast p more o
  least-of_fewer None fewer least = λ k m. least k (fewer k m)
  least-of_fewer (Some l) fewer least = (least.0, λ k m passes. least.1 k (fewer k m) passes)

  -- ===== One more key

  module _ (key : List ℕ) (wider : (k : List ℕ) → IsTrue (more k) → IsTrue (met k) ⊎ (k ≡ key)) where
    pub least-taken : (o : Option (List ℕ)) → IsTrue (is_less key o) → IsTrue (p key) → IsLeast p met o → IsLeast p more (Some key)
    least-taken o less passes least = (
      passes,
      λ k m k_passes. elim (wider k m) [
        | inl old ↦ earlier o less least k old k_passes
        | inr here ↦ subst (λ z. IsFalse (is_key_before z key)) (sym here) (before-itself key)
      ],
    )
      where
        earlier : (o : Option (List ℕ)) → IsTrue (is_less key o) → IsLeast p met o → (k : List ℕ) → IsTrue (met k) → IsTrue (p k) →
            IsFalse (is_key_before k key)
        earlier None less least k old k_passes = not-both (p k) k_passes (least k old)
        earlier (Some l) less least k old k_passes = false_from_ne_true (is_key_before k key)
            (λ t. both_ways (is_key_before k l) (least.1 k old k_passes) (before-trans k key l t less))

    pub least-passed : (o : Option (List ℕ)) → IsFalse (is_less key o && p key) → IsLeast p met o → IsLeast p more o
    least-passed None fails least = λ k m. elim (wider k m) [
      | inl old ↦ least k old
      | inr here ↦ subst (λ z. IsFalse (p z)) (sym here) fails
    ]
    least-passed (Some l) fails least = (
      least.0,
      λ k m k_passes. elim (wider k m) [
        | inl old ↦ least.1 k old k_passes
        | inr here ↦ false_from_ne_true (is_key_before k l) (λ t. both_ways (is_key_before key l && p key) fails
            (and_from (is_key_before key l) (p key) (subst (λ z. IsTrue (is_key_before z l)) here t) (subst (λ z. IsTrue (p z)) here k_passes)))
      ],
    )

-- ===== The least of a list

-- a key of an ascending list is not before its first
first-is_least : (k : List ℕ) (ks : List (List ℕ)) → IsTrue (are_ascending_keys (k ∷ ks)) → (j : List ℕ) → IsTrue (is_key_among j ks) →
    IsTrue (is_key_before k j)
first-is_least k [] up j m = not-both true refl (sym m)
first-is_least k (l ∷ ls) up j m =
    let parts = ascending-parts k (l ∷ ls) up in
    elim (or_cases (bytes_eq j l) (is_key_among j ls) m) [
      | inl e ↦ subst (λ z. IsTrue (is_key_before k z)) (sym (same-key j l e)) parts.0
      | inr later ↦ key-before-transitive k l j parts.0 (first-is_least l ls parts.1 j later)
    ]

module _ (r : List ℕ → Bool) where
  none-found : (ks : List (List ℕ)) → ((k : List ℕ) → IsTrue (is_key_among k ks) → IsFalse (r k)) → find r ks ≡ None
  none-found [] none = refl
  none-found (k ∷ ks) none =
      let out = none k (or_left (bytes_eq k k) (is_key_among k ks) (same-key-from k k refl)) in
      cond-false (r k) (Some k) (find r ks) out ∙ none-found ks (λ j m. none j (or_right (bytes_eq j k) (is_key_among j ks) m))

  least-is_found : (ks : List (List ℕ)) → IsTrue (are_ascending_keys ks) → (l : List ℕ) → IsTrue (is_key_among l ks) → IsTrue (r l) →
      ((k : List ℕ) → IsTrue (is_key_among k ks) → IsTrue (r k) → IsFalse (is_key_before k l)) → find r ks ≡ Some l
  least-is_found [] up l m passes least = not-both true refl (sym m)
  least-is_found (k ∷ ks) up l m passes least = elim (or_cases (bytes_eq l k) (is_key_among l ks) m) [
    | inl e ↦
        let same = same-key l k e in
        cond-true (r k) (Some k) (find r ks) (subst (λ z. IsTrue (r z)) same passes) ∙ ap (λ z. Some z) (sym same)
    | inr later ↦
        let before = first-is_least k ks up l later in
        let out = false_from_ne_true (r k) (λ t. both_ways (is_key_before k l)
        (least k (or_left (bytes_eq k k) (is_key_among k ks) (same-key-from k k refl)) t) before) in
        cond-false (r k) (Some k) (find r ks) out ∙ least-is_found ks (ascending-parts k ks up).1 l later passes
        (λ j n. least j (or_right (bytes_eq j k) (is_key_among j ks) n))
  ]

-- the least of what passes both tests is found by the second in the ascending list of what passes the first
pub least-found : (p r met : List ℕ → Bool) (ks : List (List ℕ)) → IsTrue (are_ascending_keys ks) → ((k : List ℕ) → is_key_among k ks ≡ p k) →
    ((k : List ℕ) → IsTrue (p k) → IsTrue (met k)) → (o : Option (List ℕ)) → IsLeast (λ k. p k && r k) met o → o ≡ find r ks
least-found p r met ks up has all None least = sym (none-found r ks (λ k m.
    let passes = sym (has k) ∙ m in
    false_from_ne_true (r k) (λ t. both_ways (p k && r k) (least k (all k passes)) (and_from (p k) (r k) passes t))))
least-found p r met ks up has all (Some l) least =
    let parts = and_parts (p l) (r l) least.0 in
    sym (least-is_found r ks up l (has l ∙ parts.0) parts.1 (λ k m t.
    let passes = sym (has k) ∙ m in
    least.1 k (all k passes) (and_from (p k) (r k) passes t)))

-- ===== Lists with the same keys

-- an ascending list has no key before its first
rest-lacks : (k : List ℕ) (ks : List (List ℕ)) → IsTrue (are_ascending_keys (k ∷ ks)) → IsFalse (is_key_among k ks)
rest-lacks k ks up = false_from_ne_true (is_key_among k ks) (λ m. both_ways (is_key_before k k) (before-itself k) (first-is_least k ks up k m))

same-first : (j k : List ℕ) (js ks : List (List ℕ)) → IsTrue (are_ascending_keys (j ∷ js)) → IsTrue (are_ascending_keys (k ∷ ks)) →
    ((l : List ℕ) → is_key_among l (j ∷ js) ≡ is_key_among l (k ∷ ks)) → j ≡ k
same-first j k js ks up_j up_k same = elim (or_cases (bytes_eq j k) (is_key_among j ks)
    (sym (same j) ∙ or_left (bytes_eq j j) (is_key_among j js) (same-key-from j j refl))) [
      | inl e ↦ same-key j k e
      | inr later ↦ elim (or_cases (bytes_eq k j) (is_key_among k js) (same k ∙ or_left (bytes_eq k k) (is_key_among k ks) (same-key-from k k refl))) [
        | inl e ↦ sym (same-key k j e)
        | inr behind ↦ not-both (is_key_before k j) (first-is_least k ks up_k j later) (before-back j k (first-is_least j js up_j k behind))
      ]
    ]

same-rest : (j : List ℕ) (js ks : List (List ℕ)) → IsTrue (are_ascending_keys (j ∷ js)) → IsTrue (are_ascending_keys (j ∷ ks)) →
    ((l : List ℕ) → is_key_among l (j ∷ js) ≡ is_key_among l (j ∷ ks)) → (l : List ℕ) → is_key_among l js ≡ is_key_among l ks
same-rest j js ks up_j up_k same l = elim (cases_Bool (bytes_eq l j)) [
  | inl t ↦
      let e = same-key l j t in
      subst (λ z. is_key_among z js ≡ is_key_among z ks) (sym e) (rest-lacks j js up_j ∙ sym (rest-lacks j ks up_k))
  | inr f ↦ sym (ap (λ b. b || is_key_among l js) f) ∙ (same l ∙ ap (λ b. b || is_key_among l ks) f)
]

-- ascending lists with the same keys are one
pub same-keys : (js ks : List (List ℕ)) → IsTrue (are_ascending_keys js) → IsTrue (are_ascending_keys ks) →
    ((l : List ℕ) → is_key_among l js ≡ is_key_among l ks) → js ≡ ks
same-keys [] [] up_j up_k same = refl
same-keys [] (k ∷ ks) up_j up_k same = not-both (is_key_among k (k ∷ ks)) (or_left (bytes_eq k k) (is_key_among k ks) (same-key-from k k refl)) (sym (same k))
same-keys (j ∷ js) [] up_j up_k same = not-both (is_key_among j (j ∷ js)) (or_left (bytes_eq j j) (is_key_among j js) (same-key-from j j refl)) (same j)
same-keys (j ∷ js) (k ∷ ks) up_j up_k same =
    let e = same-first j k js ks up_j up_k same in
    let up = subst (λ z. IsTrue (are_ascending_keys (z ∷ ks))) (sym e) up_k in
    let both = subst (λ z. (l : List ℕ) → is_key_among l (j ∷ js) ≡ is_key_among l (z ∷ ks)) (sym e) same in
    ap (λ z. z ∷ js) e ∙ ap (λ zs. k ∷ zs) (same-keys js ks (ascending-parts j js up_j).1 (ascending-parts k ks up_k).1 (same-rest j js ks up_j up both))
