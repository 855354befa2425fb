-- Names of states, and tests over lists of them.
use Rattle.std.proofs.Common.{◌≡◌, ℕ, Bool, true, false, ◌&&◌, ◌||◌, not, List, [], ◌∷◌, ◌++◌, IsTrue, IsFalse, ◌⊎◌, inl, inr, refl, sym, ap, ap₂, ◌∙◌, subst}
use Rattle.std.proofs.Common.{eqb, eqb-true, eq-eqb, is_none, find}
use Rattle.std.proofs.lemmas.Bool.{and_parts, and_from, or_cases, or_left, or_right, cases_Bool, both_ways, false_from_ne_true}
use Rattle.std.specs.List.{list_any, list_all}
use Rattle.tardis_base.specs.declared.ids.StateId.{StateId}
use Rattle.tardis_base.specs.Ids.{same_id, is_among}

-- ===== Tests

-- two tests that are true together are equal
pub same_test : (a b : Bool) → (IsTrue a → IsTrue b) → (IsTrue b → IsTrue a) → a ≡ b
same_test true b f g = sym (f refl)
same_test false true f g = g refl
same_test false false f g = refl

pub or-false : (b : Bool) → (b || false) ≡ b
or-false true = refl
or-false false = refl

pub not-both : {P : Type 0} (b : Bool) → IsTrue b → IsFalse b → P
not-both b t f = absurd (both_ways b f t)

-- ===== One state

pub same_id-true : (x y : StateId) → IsTrue (same_id x y) → x ≡ y
same_id-true x y e =
    let named : ℕ → ℕ → StateId = λ site sequence. record { site = site; sequence = sequence } in
    let p = and_parts (eqb x.site y.site) (eqb x.sequence y.sequence) e in
    ap₂ named (eqb-true x.site y.site p.0) (eqb-true x.sequence y.sequence p.1)

pub same_id_self : (x : StateId) → IsTrue (same_id x x)
same_id_self x = and_from (eqb x.site x.site) (eqb x.sequence x.sequence) (eq-eqb x.site x.site refl) (eq-eqb x.sequence x.sequence refl)

pub same_id_from : (x y : StateId) → x ≡ y → IsTrue (same_id x y)
same_id_from x y e = subst (λ z. IsTrue (same_id x z)) e (same_id_self x)

pub same_id_symmetric : (x y : StateId) → IsTrue (same_id x y) → IsTrue (same_id y x)
same_id_symmetric x y e = same_id_from y x (sym (same_id-true x y e))

pub same_id_turns : (x y : StateId) → same_id x y ≡ same_id y x
same_id_turns x y = same_test (same_id x y) (same_id y x) (same_id_symmetric x y) (same_id_symmetric y x)

-- ===== Several states

pub among-first : (x : StateId) (ys : List StateId) → IsTrue (is_among x (x ∷ ys))
among-first x ys = or_left (same_id x x) (is_among x ys) (same_id_self x)

pub among-later : (x y : StateId) (ys : List StateId) → IsTrue (is_among x ys) → IsTrue (is_among x (y ∷ ys))
among-later x y ys h = or_right (same_id x y) (is_among x ys) h

-- one of x and these: x, or one of these
pub among-cases : (z x : StateId) (ys : List StateId) → IsTrue (is_among z (x ∷ ys)) → (z ≡ x) ⊎ IsTrue (is_among z ys)
among-cases z x ys h = elim (or_cases (same_id z x) (is_among z ys) h) [
  | inl e ↦ inl (same_id-true z x e)
  | inr m ↦ inr m
]

pub among-append : (z : StateId) (xs ys : List StateId) → is_among z (xs ++ ys) ≡ (is_among z xs || is_among z ys)
among-append z [] ys = refl
among-append z (x ∷ xs) ys = ap (λ b. same_id z x || b) (among-append z xs ys) ∙ sym (or-assoc (same_id z x) (is_among z xs) (is_among z ys))
  where
    or-assoc : (a b c : Bool) → ((a || b) || c) ≡ (a || (b || c))
    or-assoc true b c = refl
    or-assoc false b c = refl

-- what is one of these differs from what is none of them
pub among-differs : (x y : StateId) (zs : List StateId) → IsTrue (is_among x zs) → IsFalse (is_among y zs) → IsFalse (same_id x y)
among-differs x y zs h n =
    false_from_ne_true (same_id x y) (λ t. both_ways (is_among y zs) n (subst (λ z. IsTrue (is_among z zs)) (same_id-true x y t) h))

module _ (p : StateId → Bool) where
  -- where the test is true of one of these, it is true of a state that is among them
  pub any-witness : (xs : List StateId) → IsTrue (list_any p xs) → (x : StateId) × IsTrue (is_among x xs) × IsTrue (p x)
  any-witness [] h = not-both true refl (sym h)
  any-witness (x ∷ xs) h = elim (or_cases (p x) (list_any p xs) h) [
    | inl t ↦ (x, among-first x xs, t)
    | inr m ↦ let w = any-witness xs m in (w.0, among-later w.0 x xs w.1, w.2)
  ]

  pub any-from : (xs : List StateId) (x : StateId) → IsTrue (is_among x xs) → IsTrue (p x) → IsTrue (list_any p xs)
  any-from [] x h t = not-both true refl (sym h)
  any-from (y ∷ ys) x h t = elim (among-cases x y ys h) [
    | inl e ↦ or_left (p y) (list_any p ys) (subst (λ z. IsTrue (p z)) e t)
    | inr m ↦ or_right (p y) (list_any p ys) (any-from ys x m t)
  ]

  pub any-false-from : (xs : List StateId) → ((x : StateId) → IsTrue (is_among x xs) → IsFalse (p x)) → IsFalse (list_any p xs)
  any-false-from xs f =
      false_from_ne_true (list_any p xs) (λ t. let w = any-witness xs t in both_ways (p w.0) (f w.0 w.1) w.2)

  pub any-false-at : (xs : List StateId) (x : StateId) → IsFalse (list_any p xs) → IsTrue (is_among x xs) → IsFalse (p x)
  any-false-at xs x n h = false_from_ne_true (p x) (λ t. both_ways (list_any p xs) n (any-from xs x h t))

  pub all-at : (xs : List StateId) (x : StateId) → IsTrue (list_all p xs) → IsTrue (is_among x xs) → IsTrue (p x)
  all-at [] x a h = not-both true refl (sym h)
  all-at (y ∷ ys) x a h =
      let parts = and_parts (p y) (list_all p ys) a in
      elim (among-cases x y ys h) [
        | inl e ↦ subst (λ z. IsTrue (p z)) (sym e) parts.0
        | inr m ↦ all-at ys x parts.1 m
      ]

  pub all-from : (xs : List StateId) → ((x : StateId) → IsTrue (is_among x xs) → IsTrue (p x)) → IsTrue (list_all p xs)
  all-from [] f = refl
  all-from (x ∷ xs) f = and_from (p x) (list_all p xs) (f x (among-first x xs)) (all-from xs (λ z m. f z (among-later z x xs m)))

  -- nothing is found exactly where the test is true of none
  pub none-found : (xs : List StateId) → is_none (find p xs) ≡ not (list_any p xs)
  none-found [] = refl
  none-found (x ∷ xs) = elim (cases_Bool (p x)) [
    | inl t ↦ rw t refl
    | inr f ↦ rw f (none-found xs)
  ]

module _ (p q : StateId → Bool) where
  pub any-agrees : (xs : List StateId) → ((x : StateId) → IsTrue (is_among x xs) → p x ≡ q x) → list_any p xs ≡ list_any q xs
  any-agrees [] f = refl
  any-agrees (x ∷ xs) f = ap₂ (λ a b. a || b) (f x (among-first x xs)) (any-agrees xs (λ z m. f z (among-later z x xs m)))

  pub all-agrees : (xs : List StateId) → ((x : StateId) → IsTrue (is_among x xs) → p x ≡ q x) → list_all p xs ≡ list_all q xs
  all-agrees [] f = refl
  all-agrees (x ∷ xs) f = ap₂ (λ a b. a && b) (f x (among-first x xs)) (all-agrees xs (λ z m. f z (among-later z x xs m)))
