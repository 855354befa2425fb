-- Searches and filters over lists of states.
use Rattle.std.proofs.Common.{◌≡◌, Bool, true, cond, List, [], ◌∷◌, IsTrue, IsFalse, Option, Some, None, ◌⊎◌, inl, inr, refl, sym, ap, subst, ◌∙◌, filter}
use Rattle.std.proofs.Common.{filter_map, find}
use Rattle.std.proofs.lemmas.Bool.{cases_Bool, cond-true, cond-false}
use Rattle.std.proofs.lemmas.Option.{none-some, same_Some}
use Rattle.std.specs.List.{cons_option}
use Rattle.tardis_base.specs.declared.ids.StateId.{StateId}
use Rattle.tardis_base.specs.Ids.{is_among}
use Rattle.plain_dag.proofs.Ids.{not-both, among-first, among-later, among-cases}

module _ (p : StateId → Bool) where
  -- ===== Searches

  -- what is found is one of these and passes
  pub found-passes : (xs : List StateId) (x : StateId) → find p xs ≡ Some x → IsTrue (is_among x xs) × IsTrue (p x)
  found-passes [] x e = absurd (none-some x e)
  found-passes (y ∷ ys) x e = elim (cases_Bool (p y)) [
    | inl t ↦
        let same = same_Some y x (sym (cond-true (p y) (Some y) (find p ys) t) ∙ e) in
        (subst (λ z. IsTrue (is_among z (y ∷ ys))) same (among-first y ys), subst (λ z. IsTrue (p z)) same t)
    | inr f ↦
        let w = found-passes ys x (sym (cond-false (p y) (Some y) (find p ys) f) ∙ e) in
        (among-later x y ys w.0, w.1)
  ]

  -- where one of these passes, one is found
  pub finds-passing : (xs : List StateId) (x : StateId) → IsTrue (is_among x xs) → IsTrue (p x) → (y : StateId) × (find p xs ≡ Some y)
  finds-passing [] x h t = not-both true refl (sym h)
  finds-passing (y ∷ ys) x h t = elim (cases_Bool (p y)) [
    | inl u ↦ (y, cond-true (p y) (Some y) (find p ys) u)
    | inr f ↦ elim (among-cases x y ys h) [
      | inl e ↦ not-both (p y) (subst (λ z. IsTrue (p z)) e t) f
      | inr m ↦ let w = finds-passing ys x m t in (w.0, cond-false (p y) (Some y) (find p ys) f ∙ w.1)
    ]
  ]

  -- ===== Filters

  pub filter-newest : (x : StateId) (xs : List StateId) → IsTrue (p x) → filter p (x ∷ xs) ≡ x ∷ filter p xs
  filter-newest x xs t = cond-true (p x) (x ∷ filter p xs) (filter p xs) t

  pub filter-without : (x : StateId) (xs : List StateId) → IsFalse (p x) → filter p (x ∷ xs) ≡ filter p xs
  filter-without x xs f = cond-false (p x) (x ∷ filter p xs) (filter p xs) f

  pub among-filter : (xs : List StateId) (x : StateId) → IsTrue (is_among x xs) → IsTrue (p x) → IsTrue (is_among x (filter p xs))
  among-filter [] x h t = h
  among-filter (y ∷ ys) x h t = elim (cases_Bool (p y)) [
    | inl u ↦ subst (λ zs. IsTrue (is_among x zs)) (sym (filter-newest y ys u)) (elim (among-cases x y ys h) [
      | inl e ↦ subst (λ z. IsTrue (is_among x (z ∷ filter p ys))) e (among-first x (filter p ys))
      | inr m ↦ among-later x y (filter p ys) (among-filter ys x m t)
    ])
    | inr f ↦ subst (λ zs. IsTrue (is_among x zs)) (sym (filter-without y ys f)) (elim (among-cases x y ys h) [
      | inl e ↦ not-both (p y) (subst (λ z. IsTrue (p z)) e t) f
      | inr m ↦ among-filter ys x m t
    ])
  ]

  pub filtered-passes : (xs : List StateId) (x : StateId) → IsTrue (is_among x (filter p xs)) → IsTrue (is_among x xs) × IsTrue (p x)
  filtered-passes [] x h = not-both true refl (sym h)
  filtered-passes (y ∷ ys) x h = elim (cases_Bool (p y)) [
    | inl u ↦ elim (among-cases x y (filter p ys) (subst (λ zs. IsTrue (is_among x zs)) (filter-newest y ys u) h)) [
      | inl e ↦ (subst (λ z. IsTrue (is_among z (y ∷ ys))) (sym e) (among-first y ys), subst (λ z. IsTrue (p z)) (sym e) u)
      | inr m ↦ let w = filtered-passes ys x m in (among-later x y ys w.0, w.1)
    ]
    | inr f ↦
        let w = filtered-passes ys x (subst (λ zs. IsTrue (is_among x zs)) (filter-without y ys f) h) in
        (among-later x y ys w.0, w.1)
  ]

module _ (p q : StateId → Bool) where
  pub find-agrees : (xs : List StateId) → ((x : StateId) → IsTrue (is_among x xs) → p x ≡ q x) → find p xs ≡ find q xs
  find-agrees [] f = refl
  find-agrees (x ∷ xs) f =
      ap (λ b. cond b (Some x) (find p xs)) (f x (among-first x xs))
      ∙ ap (λ o. cond (q x) (Some x) o) (find-agrees xs (λ z m. f z (among-later z x xs m)))

  pub filter-agrees : (xs : List StateId) → ((x : StateId) → IsTrue (is_among x xs) → p x ≡ q x) → filter p xs ≡ filter q xs
  filter-agrees [] f = refl
  filter-agrees (x ∷ xs) f =
      ap (λ b. cond b (x ∷ filter p xs) (filter p xs)) (f x (among-first x xs))
      ∙ ap (λ ys. cond (q x) (x ∷ ys) ys) (filter-agrees xs (λ z m. f z (among-later z x xs m)))

-- ===== What a search gives at each state

pub option-cases : (o : Option StateId) → ((y : StateId) × (o ≡ Some y)) ⊎ (o ≡ None)
option-cases (Some y) = inl (y, refl)
option-cases None = inr refl

module _ (h : StateId → Option StateId) where
  -- what it gives at one of these is among the results
  pub among-mapped : (xs : List StateId) (x y : StateId) → IsTrue (is_among x xs) → h x ≡ Some y → IsTrue (is_among y (filter_map h xs))
  among-mapped [] x y m e = not-both true refl (sym m)
  among-mapped (z ∷ zs) x y m e = elim (among-cases x z zs m) [
    | inl same ↦
        subst (λ o. IsTrue (is_among y (cons_option o (filter_map h zs)))) (sym (subst (λ w. h w ≡ Some y) same e))
        (among-first y (filter_map h zs))
    | inr later ↦ behind (h z) (among-mapped zs x y later e)
  ]
    where
      behind : (o : Option StateId) → IsTrue (is_among y (filter_map h zs)) → IsTrue (is_among y (cons_option o (filter_map h zs)))
      behind (Some w) m = among-later y w (filter_map h zs) m
      behind None m = m

  -- each of the results is given at one of these
  pub mapped-from : (xs : List StateId) (y : StateId) → IsTrue (is_among y (filter_map h xs)) → (x : StateId) × IsTrue (is_among x xs) × (h x ≡ Some y)
  mapped-from [] y m = not-both true refl (sym m)
  mapped-from (z ∷ zs) y m = elim (option-cases (h z)) [
    | inl w ↦ elim (among-cases y w.0 (filter_map h zs) (subst (λ o. IsTrue (is_among y (cons_option o (filter_map h zs)))) w.1 m)) [
      | inl e ↦ (z, among-first z zs, w.1 ∙ ap (λ v. Some v) (sym e))
      | inr n ↦ let v = mapped-from zs y n in (v.0, among-later v.0 z zs v.1, v.2)
    ]
    | inr e ↦
        let v = mapped-from zs y (subst (λ o. IsTrue (is_among y (cons_option o (filter_map h zs)))) e m) in
        (v.0, among-later v.0 z zs v.1, v.2)
  ]
