-- What is chosen of an ascending list, and its front, ascend.
use Rattle.std.proofs.Common.{◌≡◌, ℕ, zero, suc, ◌<◌, ◌≤◌, Bool, true, ◌&&◌, ◌==◌, IsTrue, List, [], ◌∷◌, filter, take, nat_lt, refl, sym, ◌∙◌, subst, inl, inr, arith}
use Rattle.std.proofs.Common.{lt-ltb, ltb-true, ltb-false, eqb-true, eq-eqb}
use Rattle.std.proofs.lemmas.Bool.{and_parts, and_from, or_cases, or_left, or_right, cases_Bool, cond-true, cond-false}
use Rattle.tardis_base.specs.declared.ids.StateId.{StateId}
use Rattle.tardis_base.specs.Ids.{is_before, are_ascending}
use Rattle.tardis_base.specs.Keys.{is_key_before, are_ascending_keys}
use Rattle.tardis_base.proofs.KeyOrder.{before-trans}
use Rattle.plain_dag.specs.Entries.{have_ascending_numbers}
use Rattle.plain_dag.specs.Floors.{Session}

-- ===== Any order

-- the test is that each stands before the next
pub record Ascends {A : Type 0} (before : A → A → Bool) (up : List A → Bool) : Type 0 where
  pub none : up [] ≡ true
  pub one : (x : A) → up (x ∷ []) ≡ true
  pub two : (x y : A) (ys : List A) → up (x ∷ y ∷ ys) ≡ (before x y && up (y ∷ ys))

-- x stands before the first of these, if there is one
abbrev pub is_in_front : {A : Type 0} → (A → A → Bool) → A → List A → Bool
is_in_front before x [] = true
is_in_front before x (y ∷ ys) = before x y

pub up-parts : {A : Type 0} (before : A → A → Bool) (up : List A → Bool) → Ascends before up → (x : A) (ys : List A) → IsTrue (up (x ∷ ys)) →
    IsTrue (is_in_front before x ys) × IsTrue (up ys)
up-parts before up o x [] h = (refl, o.none)
up-parts before up o x (y ∷ ys) h = and_parts (before x y) (up (y ∷ ys)) (sym (o.two x y ys) ∙ h)

pub up-from : {A : Type 0} (before : A → A → Bool) (up : List A → Bool) → Ascends before up → (x : A) (ys : List A) → IsTrue (is_in_front before x ys) →
    IsTrue (up ys) → IsTrue (up (x ∷ ys))
up-from before up o x [] h a = o.one x
up-from before up o x (y ∷ ys) h a = o.two x y ys ∙ and_from (before x y) (up (y ∷ ys)) h a

-- the front of a list
pub take-ascends : {A : Type 0} (before : A → A → Bool) (up : List A → Bool) → Ascends before up → (n : ℕ) (xs : List A) → IsTrue (up xs) → IsTrue (up (take n xs))
take-ascends before up o zero xs h = o.none
take-ascends before up o (suc n) [] h = o.none
take-ascends {A} before up o (suc n) (x ∷ xs) h =
    let parts = up-parts before up o x xs h in
    up-from before up o x (take n xs) (in-front n xs parts.0) (take-ascends before up o n xs parts.1)
  where
    in-front : (n : ℕ) (xs : List A) → IsTrue (is_in_front before x xs) → IsTrue (is_in_front before x (take n xs))
    in-front zero xs h = refl
    in-front (suc n) [] h = refl
    in-front (suc n) (y ∷ ys) h = h

-- what is chosen of a list
pub filter-ascends : {A : Type 0} (before : A → A → Bool) (up : List A → Bool) → Ascends before up →
    ((x y z : A) → IsTrue (before x y) → IsTrue (before y z) → IsTrue (before x z)) → (p : A → Bool) (xs : List A) → IsTrue (up xs) → IsTrue (up (filter p xs))
filter-ascends before up o trans p [] h = o.none
filter-ascends {A} before up o trans p (x ∷ xs) h =
    let parts = up-parts before up o x xs h in
    let later = filter-ascends before up o trans p xs parts.1 in
    elim (cases_Bool (p x)) [
      | inl t ↦
          subst (λ zs. IsTrue (up zs)) (sym (cond-true (p x) (x ∷ filter p xs) (filter p xs) t))
          (up-from before up o x (filter p xs) (in-front x xs parts.0 parts.1) later)
      | inr f ↦ subst (λ zs. IsTrue (up zs)) (sym (cond-false (p x) (x ∷ filter p xs) (filter p xs) f)) later
    ]
  where
    in-front : (x : A) (xs : List A) → IsTrue (is_in_front before x xs) → IsTrue (up xs) → IsTrue (is_in_front before x (filter p xs))
    in-front x [] b a = refl
    in-front x (y ∷ ys) b a =
        let parts = up-parts before up o y ys a in
        elim (cases_Bool (p y)) [
          | inl t ↦ subst (λ zs. IsTrue (is_in_front before x zs)) (sym (cond-true (p y) (y ∷ filter p ys) (filter p ys) t)) b
          | inr f ↦
              subst (λ zs. IsTrue (is_in_front before x zs)) (sym (cond-false (p y) (y ∷ filter p ys) (filter p ys) f))
              (in-front x ys (nearer x y ys b parts.0) parts.1)
        ]
      where
        nearer : (x y : A) (ys : List A) → IsTrue (before x y) → IsTrue (is_in_front before y ys) → IsTrue (is_in_front before x ys)
        nearer x y [] b c = refl
        nearer x y (z ∷ zs) b c = trans x y z b c

-- ===== Keys

keys-ascend : Ascends is_key_before are_ascending_keys
keys-ascend = record { none = refl; one = λ x. refl; two = λ x y ys. refl }

pub keys-taken : (n : ℕ) (ks : List (List ℕ)) → IsTrue (are_ascending_keys ks) → IsTrue (are_ascending_keys (take n ks))
keys-taken n ks h = take-ascends is_key_before are_ascending_keys keys-ascend n ks h

pub keys-chosen : (p : List ℕ → Bool) (ks : List (List ℕ)) → IsTrue (are_ascending_keys ks) → IsTrue (are_ascending_keys (filter p ks))
keys-chosen p ks h = filter-ascends is_key_before are_ascending_keys keys-ascend before-trans p ks h

-- ===== States

ids-ascend : Ascends is_before are_ascending
ids-ascend = record { none = refl; one = λ x. refl; two = λ x y ys. refl }

-- the one site is before the other, or both are one and the sequences are in order
record Before (x y : StateId) : Type 0 where
  sites : x.site ≤ y.site
  sequences : (x.site ≡ y.site) → x.sequence < y.sequence

before-is : (x y : StateId) → IsTrue (is_before x y) → Before x y
before-is x y h = elim (or_cases (nat_lt x.site y.site) (x.site == y.site && nat_lt x.sequence y.sequence) h) [
  | inl t ↦ let l = ltb-true x.site y.site t in record { sites = omega arith; sequences = λ e. absurd (omega (arith, e, l)) }
  | inr b ↦
      let parts = and_parts (x.site == y.site) (nat_lt x.sequence y.sequence) b in
      let e = eqb-true x.site y.site parts.0 in
      let l = ltb-true x.sequence y.sequence parts.1 in
      record { sites = omega arith; sequences = λ _. l }
]

is-before : (x y : StateId) → Before x y → IsTrue (is_before x y)
is-before x y b = elim (cases_Bool (nat_lt x.site y.site)) [
  | inl t ↦ or_left (nat_lt x.site y.site) (x.site == y.site && nat_lt x.sequence y.sequence) t
  | inr f ↦
      let same : x.site ≡ y.site = omega (arith, b.sites, ltb-false x.site y.site f) in
      or_right (nat_lt x.site y.site) (x.site == y.site && nat_lt x.sequence y.sequence)
      (and_from (x.site == y.site) (nat_lt x.sequence y.sequence) (eq-eqb x.site y.site same) (lt-ltb x.sequence y.sequence (b.sequences same)))
]

ids-trans : (x y z : StateId) → IsTrue (is_before x y) → IsTrue (is_before y z) → IsTrue (is_before x z)
ids-trans x y z p q =
    let a = before-is x y p in
    let b = before-is y z q in
    is-before x z (record {
      sites = omega (arith, a.sites, b.sites);
      sequences = λ e. omega (arith, a.sequences (omega (arith, a.sites, b.sites, e)), b.sequences (omega (arith, a.sites, b.sites, e)));
    })

pub ids-chosen : (p : StateId → Bool) (xs : List StateId) → IsTrue (are_ascending xs) → IsTrue (are_ascending (filter p xs))
ids-chosen p xs h = filter-ascends is_before are_ascending ids-ascend ids-trans p xs h

-- ===== Sessions

abbrev number-before : ℕ × Session → ℕ × Session → Bool
number-before s t = nat_lt s.0 t.0

sessions-ascend : Ascends number-before have_ascending_numbers
sessions-ascend = record { none = refl; one = λ x. refl; two = λ x y ys. refl }

numbers-trans : (s t u : ℕ × Session) → IsTrue (number-before s t) → IsTrue (number-before t u) → IsTrue (number-before s u)
numbers-trans s t u p q = lt-ltb s.0 u.0 (omega (arith, ltb-true s.0 t.0 p, ltb-true t.0 u.0 q))

pub sessions-chosen : (p : ℕ × Session → Bool) (n : ℕ) (ss : List (ℕ × Session)) → IsTrue (have_ascending_numbers ss) →
    IsTrue (have_ascending_numbers (take n (filter p ss)))
sessions-chosen p n ss h =
    take-ascends number-before have_ascending_numbers sessions-ascend n (filter p ss)
    (filter-ascends number-before have_ascending_numbers sessions-ascend numbers-trans p ss h)
