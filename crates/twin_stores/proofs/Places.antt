-- Lists that have the same at each place.
use Rattle.std.proofs.Common.{◌≡◌, ℕ, zero, suc, ◌+◌, ◌<◌, List, [], ◌∷◌, length, map, get_or, Some, slice_get, inl, inr, refl, sym, ap, ap₂, subst, ◌∙◌}
use Rattle.std.proofs.Common.{arith}
use Rattle.std.proofs.Common.{Bool, true, false, not, ◌↔◌, IsTrue}
use Rattle.std.specs.Bool.{Decides}
use Rattle.std.proofs.lemmas.Bool.{cases_lt, both_ways}
use Rattle.std.proofs.lemmas.Option.{none-some, same_Some}
use Rattle.tardis_base.specs.declared.ids.StateId.{StateId}
use Rattle.tardis_base.specs.Ids.{same_id}
use Rattle.plain_dag.proofs.Ids.{same_id-true, same_id_from}

-- the same stands at each place before this one
abbrev pub AreSameBefore : {A : Type 0} → ℕ → List A → List A → Type 0
AreSameBefore n xs ys = (k : ℕ) → k < n → slice_get xs k ≡ slice_get ys k

pub same-none : {A : Type 0} (xs ys : List A) → AreSameBefore 0 xs ys
same-none xs ys k lt = absurd (omega arith)

pub same-next : {A : Type 0} (xs ys : List A) (n : ℕ) → AreSameBefore n xs ys → slice_get xs n ≡ slice_get ys n → AreSameBefore (n + 1) xs ys
same-next xs ys n before here k lt = elim (cases_lt k n) [
  | inl below ↦ before k below
  | inr le ↦ (let same : n ≡ k = omega arith in subst (λ m. slice_get xs m ≡ slice_get ys m) same here)
]

pub same-all : {A : Type 0} (xs ys : List A) → length xs ≡ length ys → AreSameBefore (length xs) xs ys → xs ≡ ys
same-all [] [] long same = refl
same-all [] (y ∷ ys) long same = absurd (omega arith)
same-all (x ∷ xs) [] long same = absurd (omega arith)
same-all (x ∷ xs) (y ∷ ys) long same =
    ap₂ (λ z zs. z ∷ zs) (same_Some x y (same 0 (omega arith))) (same-all xs ys (omega arith) (λ k lt. same (suc k) (omega arith)))

-- what is mapped at a place
pub mapped-place : {A B : Type 0} (f : A → B) (xs : List A) (k : ℕ) (d : A) → k < length xs → slice_get (map f xs) k ≡ Some (f (get_or xs k d))
mapped-place f [] k d lt = absurd (omega arith)
mapped-place f (x ∷ xs) zero d lt = refl
mapped-place f (x ∷ xs) (suc k) d lt = mapped-place f xs k d (omega arith)

pub mapped-got : {A B : Type 0} (f : A → B) (xs : List A) (k : ℕ) (x : A) → slice_get xs k ≡ Some x → slice_get (map f xs) k ≡ Some (f x)
mapped-got f [] k x e = absurd (none-some x e)
mapped-got f (y ∷ xs) zero x e = ap (λ z. Some (f z)) (same_Some y x e)
mapped-got f (y ∷ xs) (suc k) x e = mapped-got f xs k x e

-- a refusal is right where it isn't so
pub refused : {P : Type 0} → (P → ⊥) → IsTrue false ↔ P
refused n = (λ t. absurd (both_ways false refl t), λ p. absurd (n p))

-- ids that were compared
pub same-ids : (a b : StateId) (r : Bool) → r ≡ not (same_id a b) → r ≡ false → a ≡ b
same-ids a b r is f = same_id-true a b (turned (same_id a b) (sym is ∙ f))
  where
    turned : (t : Bool) → not t ≡ false → t ≡ true
    turned true e = refl
    turned false e = absurd (both_ways true e refl)

pub other-ids : (a b : StateId) (r : Bool) → r ≡ not (same_id a b) → r ≡ true → a ≡ b → ⊥
other-ids a b r is t same = both_ways (not (same_id a b)) (ap not (same_id_from a b same)) (sym is ∙ t)

pub id-decides : (a b : StateId) → Decides (same_id a b) (a ≡ b)
id-decides a b = (same_id-true a b, same_id_from a b)
