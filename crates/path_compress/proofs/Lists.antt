-- Places in lists of states in arrival order.
use Rattle.std.proofs.Common.{◌≡◌, ℕ, zero, suc, ◌<◌, ◌≤◌, false, not, List, [], ◌∷◌, length, map, filter, take, get_or, slice_get, Option, Some, IsTrue, inl}
use Rattle.std.proofs.Common.{inr, refl, sym, ap, subst, ◌∙◌, arith}
use Rattle.std.proofs.lemmas.Bool.{cond-true, not_from_false, false_from_ne_true}
use Rattle.std.proofs.lemmas.Option.{none-some, same_Some}
use Rattle.tardis_base.specs.declared.ids.StateId.{StateId}
use Rattle.tardis_base.specs.declared.ids.Slot.{Slot}
use Rattle.tardis_base.specs.Ids.{same_id, is_among}
use Rattle.plain_dag.proofs.Ids.{not-both, same_id-true, among-first, among-later, among-cases}
use Rattle.plain_dag.proofs.Places.{got-is_among}
use Rattle.plain_dag.proofs.Rising.{Rising}
use Rattle.state_dag.specs.Table.{Entry}

-- which state a slot at a place names
pub record IsPlaced (name : Slot → Option StateId) (xs : List StateId) (i : ℕ) (slot : Slot) : Type 0 where
  pub state : StateId
  pub named : name slot ≡ Some state
  pub got : slice_get xs i ≡ Some state

pub placed-at : (name : Slot → Option StateId) (ss : List Slot) (xs : List StateId) (i : ℕ) (d : Slot) → map name ss ≡ map (λ x. Some x) xs → i < length ss
    → IsPlaced name xs i (get_or ss i d)
placed-at name [] xs i d are lt = absurd (let bad : ⊥ = omega arith in bad)
placed-at name (s ∷ ss) [] i d are lt = absurd (let bad : ⊥ = cc in bad)
placed-at name (s ∷ ss) (x ∷ xs) zero d are lt = record { state = x; named = (let e : name s ≡ Some x = cc in e); got = refl }
placed-at name (s ∷ ss) (x ∷ xs) (suc i) d are lt =
    let w = placed-at name ss xs i d (let rest = are in cc) (omega arith) in
    record { state = w.state; named = w.named; got = w.got }

pub got-within : (xs : List StateId) (i : ℕ) (x : StateId) → slice_get xs i ≡ Some x → i < length xs
got-within [] i x e = absurd (none-some x e)
got-within (y ∷ xs) zero x e = omega arith
got-within (y ∷ xs) (suc i) x e = let rest = got-within xs i x e in omega arith

-- which state stands at the place of a slot
pub placed-got : (name : Slot → Option StateId) (es : List Entry) (xs : List StateId) (p : ℕ) (slot : Slot) (x : StateId) → map (λ e. name e.slot) es
    ≡ map (λ e. Some e.id) es → map (λ e. e.id) es ≡ xs →
    ((e : Entry) → (get_or es p e).slot ≡ slot) → p < length es → name slot ≡ Some x → slice_get xs p ≡ Some x
placed-got name [] xs p slot x slots ids at within named = absurd (let bad : ⊥ = omega arith in bad)
placed-got name (e ∷ es) [] p slot x slots ids at within named = absurd (let bad : ⊥ = cc in bad)
placed-got name (e ∷ es) (y ∷ xs) zero slot x slots ids at within named =
    let here : name e.slot ≡ Some e.id = cc in
    let is : e.id ≡ y = cc in
    ap (λ z. Some z) (sym is) ∙ sym here ∙ ap name (at e) ∙ named
placed-got name (e ∷ es) (y ∷ xs) (suc p) slot x slots ids at within named = placed-got name es xs p slot x (let rest = slots in cc) (let rest = ids in
    cc) at (omega arith) named

module _ (f : StateId → ℕ) where
  -- what stands before a place doesn't lose by the state there
  pub take-without : (xs : List StateId) (i : ℕ) (x : StateId) → Rising f xs → slice_get xs i ≡ Some x → take i (filter (λ z. not (same_id z x)) xs) ≡ take i xs
  take-without [] i x up e = absurd (none-some x e)
  take-without (y ∷ xs) zero x up e = refl
  take-without (y ∷ xs) (suc i) x up e =
      let less = up.0 x (got-is_among xs i x e) in
      let other = false_from_ne_true (same_id y x) (λ t. let same = ap f (same_id-true y x t) in let bad : ⊥ = omega arith in bad) in
      let others = filter (λ z. not (same_id z x)) xs in
      ap (take (suc i)) (cond-true (not (same_id y x)) (y ∷ others) others (not_from_false (same_id y x) other))
      ∙ ap (λ zs. y ∷ zs) (take-without xs i x up.1 e)

  -- so there are as many
  pub within-without : (xs : List StateId) (i : ℕ) (x : StateId) → Rising f xs → slice_get xs i ≡ Some x → i ≤ length (filter (λ z. not (same_id z x)) xs)
  within-without [] i x up e = absurd (none-some x e)
  within-without (y ∷ xs) zero x up e = omega arith
  within-without (y ∷ xs) (suc i) x up e =
      let less = up.0 x (got-is_among xs i x e) in
      let other = false_from_ne_true (same_id y x) (λ t. let same = ap f (same_id-true y x t) in let bad : ⊥ = omega arith in bad) in
      let others = filter (λ z. not (same_id z x)) xs in
      let long = ap length (cond-true (not (same_id y x)) (y ∷ others) others (not_from_false (same_id y x) other)) in
      let rest = within-without xs i x up.1 e in
      omega arith

  -- what is among those up to a place arrived no later than the state there
  pub up-to : (xs : List StateId) (i : ℕ) (x y : StateId) → Rising f xs → slice_get xs i ≡ Some x → IsTrue (is_among y (take (suc i) xs)) → f y ≤ f x
  up-to [] i x y up e m = absurd (none-some x e)
  up-to (z ∷ xs) zero x y up e m = elim (among-cases y z [] m) [
    | inl is ↦ (let a = ap f is in let b = ap f (same_Some z x e) in omega arith)
    | inr none ↦ not-both false none refl
  ]
  up-to (z ∷ xs) (suc i) x y up e m = elim (among-cases y z (take (suc i) xs) m) [
    | inl is ↦ (let a = ap f is in let less = up.0 x (got-is_among xs i x e) in omega arith)
    | inr later ↦ up-to xs i x y up.1 e later
  ]

  -- and what arrived before it is among those before the place
  pub before-place : (xs : List StateId) (i : ℕ) (x y : StateId) → Rising f xs → slice_get xs i ≡ Some x → IsTrue (is_among y xs) → f y < f x →
      IsTrue (is_among y (take i xs))
  before-place [] i x y up e m lt = absurd (none-some x e)
  before-place (z ∷ xs) zero x y up e m lt =
      let same = ap f (same_Some z x e) in
      elim (among-cases y z xs m) [
        | inl is ↦ (let a = ap f is in absurd (let bad : ⊥ = omega arith in bad))
        | inr later ↦ (let less = up.0 y later in absurd (let bad : ⊥ = omega arith in bad))
      ]
  before-place (z ∷ xs) (suc i) x y up e m lt = elim (among-cases y z xs m) [
    | inl is ↦ subst (λ w. IsTrue (is_among w (z ∷ take i xs))) (sym is) (among-first z (take i xs))
    | inr later ↦ among-later y z (take i xs) (before-place xs i x y up.1 e later lt)
  ]
