-- What stands behind a state of a list that rises by arrival.
use Rattle.std.proofs.Common.{◌≡◌, ℕ, zero, suc, ◌<◌, List, [], ◌∷◌, drop, IsTrue, inl, inr, sym, ap, subst, arith}
use Rattle.tardis_base.specs.declared.ids.StateId.{StateId}
use Rattle.tardis_base.specs.Ids.{is_among}
use Rattle.plain_dag.proofs.Ids.{among-first, among-later, among-cases}
use Rattle.plain_dag.proofs.Rising.{Rising}

module _ (f : StateId → ℕ) where
  front-is_among : (xs : List StateId) (i : ℕ) (x : StateId) (zs : List StateId) → drop i xs ≡ x ∷ zs → IsTrue (is_among x xs)
  front-is_among xs zero x zs e = subst (λ ys. IsTrue (is_among x ys)) (sym e) (among-first x zs)
  front-is_among [] (suc i) x zs e = absurd (let bad : ⊥ = cc in bad)
  front-is_among (w ∷ xs) (suc i) x zs e = among-later x w xs (front-is_among xs i x zs e)

  -- what has a greater number than the one at a place stands behind it
  pub stands-behind : (xs : List StateId) (i : ℕ) (x y : StateId) (zs : List StateId) → Rising f xs → drop i xs ≡ x ∷ zs → IsTrue (is_among y xs) →
      f x < f y → IsTrue (is_among y zs)
  stands-behind xs zero x y zs up e m lt = elim (among-cases y x zs (subst (λ ys. IsTrue (is_among y ys)) e m)) [
    | inl is ↦ (let at = ap f is in absurd (omega arith))
    | inr later ↦ later
  ]
  stands-behind [] (suc i) x y zs up e m lt = absurd (let bad : ⊥ = cc in bad)
  stands-behind (w ∷ xs) (suc i) x y zs up e m lt = elim (among-cases y w xs m) [
    | inl is ↦ (let at = ap f is in let less = up.0 x (front-is_among xs i x zs e) in absurd (omega arith))
    | inr later ↦ stands-behind xs i x y zs up.1 e later lt
  ]
