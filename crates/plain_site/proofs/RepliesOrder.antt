-- States in order: those that are apart are put in an ascending order.
use Rattle.std.proofs.Common.{None, is_none, ◌≡◌, ◌≢◌, ◌+◌, ◌≤◌, ◌<◌, Bool, true, false, ◌&&◌, ◌==◌, not, List, [], ◌∷◌, length, nat_lt, IsTrue, IsFalse}
use Rattle.std.proofs.Common.{refl, sym, ◌∙◌, ap, subst, inl, inr, arith, lt-ltb, eq-eqb, ltb-false}
use Rattle.std.proofs.lemmas.Bool.{and_parts, and_from, or_parts, or_from, or_left, or_right, cases_Bool, cond-true, cond-false, false_from_ne_true, not-true}
use Rattle.std.proofs.lemmas.Bool.{both_ways}
use Rattle.std.specs.List.{list_any, list_all}
use Rattle.tardis_base.specs.declared.ids.StateId.{StateId}
use Rattle.tardis_base.specs.declared.records.Record.{Record}
use Rattle.tardis_base.specs.Ids.{same_id, is_among, is_before, are_ascending}
use Rattle.tardis_base.specs.Valid.{is_id}
use Rattle.plain_dag.specs.Above.{is_above, are_comparable, are_apart, comparable_pair}
use Rattle.plain_dag.proofs.Ids.{any-from}
use Rattle.plain_dag.proofs.Order.{above-reflexive, apart-means-incomparable}
use Rattle.plain_site.specs.Merges.{with_state, in_order}
use Rattle.plain_site.proofs.RepliesLists.{first, second}

-- ===== States in order

-- the state is before the first of these, if there is one
abbrev is_first : StateId → List StateId → Bool
is_first x [] = true
is_first x (y ∷ ys) = is_before x y

up-parts : (x : StateId) (ys : List StateId) → IsTrue (are_ascending (x ∷ ys)) → IsTrue (is_first x ys) × IsTrue (are_ascending ys)
up-parts x [] h = (refl, refl)
up-parts x (y ∷ ys) h = and_parts (is_before x y) (are_ascending (y ∷ ys)) h

up-from : (x : StateId) (ys : List StateId) → IsTrue (is_first x ys) → IsTrue (are_ascending ys) → IsTrue (are_ascending (x ∷ ys))
up-from x [] h a = refl
up-from x (y ∷ ys) h a = and_from (is_before x y) (are_ascending (y ∷ ys)) h a

-- two ids, of which neither is before the other, are one
before-or-same : (x y : StateId) → IsFalse (is_before y x) → IsFalse (same_id x y) → IsTrue (is_before x y)
before-or-same x y f n =
    let a = or_parts (nat_lt y.site x.site) (y.site == x.site && nat_lt y.sequence x.sequence) f in
    elim (cases_Bool (nat_lt x.site y.site)) [
      | inl t ↦ or_left (nat_lt x.site y.site) (x.site == y.site && nat_lt x.sequence y.sequence) t
      | inr g ↦ or_right (nat_lt x.site y.site) (x.site == y.site && nat_lt x.sequence y.sequence) (level a.0 a.1 g)
    ]
  where
    level : IsFalse (nat_lt y.site x.site) → IsFalse (y.site == x.site && nat_lt y.sequence x.sequence) → IsFalse (nat_lt x.site y.site) →
        IsTrue (x.site == y.site && nat_lt x.sequence y.sequence)
    level p q g =
        let l : x.site ≤ y.site = ltb-false y.site x.site p in
        let m : y.site ≤ x.site = ltb-false x.site y.site g in
        let e : x.site ≡ y.site = omega arith in
        let up : IsFalse (nat_lt y.sequence x.sequence) = false_from_ne_true (nat_lt y.sequence x.sequence)
        (λ t. both_ways (y.site == x.site && nat_lt y.sequence x.sequence) q
        (and_from (y.site == x.site) (nat_lt y.sequence x.sequence) (eq-eqb y.site x.site (sym e)) t)) in
        let le : x.sequence ≤ y.sequence = ltb-false y.sequence x.sequence up in
        let ne : x.sequence ≢ y.sequence = λ d. both_ways (same_id x y) n
        (and_from (x.site == y.site) (x.sequence == y.sequence) (eq-eqb x.site y.site e) (eq-eqb x.sequence y.sequence d)) in
        let lt : x.sequence < y.sequence = omega arith in
        and_from (x.site == y.site) (nat_lt x.sequence y.sequence) (eq-eqb x.site y.site e) (lt-ltb x.sequence y.sequence lt)

with-later : (x y : StateId) (ys : List StateId) → IsTrue (is_before y x) → with_state x (y ∷ ys) ≡ y ∷ with_state x ys
with-later x y ys t = cond-true (is_before y x) (y ∷ with_state x ys) (x ∷ y ∷ ys) t

with-here : (x y : StateId) (ys : List StateId) → IsFalse (is_before y x) → with_state x (y ∷ ys) ≡ x ∷ y ∷ ys
with-here x y ys f = cond-false (is_before y x) (y ∷ with_state x ys) (x ∷ y ∷ ys) f

with-length : (x : StateId) (ys : List StateId) → length (with_state x ys) ≡ length ys + 1
with-length x [] = refl
with-length x (y ∷ ys) = elim (cases_Bool (is_before y x)) [
  | inl t ↦ let e = ap length (with-later x y ys t) in let l = with-length x ys in omega arith
  | inr f ↦ let e = ap length (with-here x y ys f) in omega arith
]

with-ids : (x : StateId) (ys : List StateId) → IsTrue (is_id x) → IsTrue (list_all is_id ys) → IsTrue (list_all is_id (with_state x ys))
with-ids x [] h a = and_from (is_id x) true h refl
with-ids x (y ∷ ys) h a = elim (cases_Bool (is_before y x)) [
  | inl t ↦
      subst (λ zs. IsTrue (list_all is_id zs)) (sym (with-later x y ys t))
      (and_from (is_id y) (list_all is_id (with_state x ys)) (first (is_id y) (list_all is_id ys) a) (with-ids x ys h (second (is_id y) (list_all is_id ys) a)))
  | inr f ↦ subst (λ zs. IsTrue (list_all is_id zs)) (sym (with-here x y ys f)) (and_from (is_id x) (list_all is_id (y ∷ ys)) h a)
]

with-first : (z x : StateId) (ys : List StateId) → IsTrue (is_before z x) → IsTrue (is_first z ys) → IsTrue (is_first z (with_state x ys))
with-first z x [] h a = h
with-first z x (y ∷ ys) h a = elim (cases_Bool (is_before y x)) [
  | inl t ↦ subst (λ zs. IsTrue (is_first z zs)) (sym (with-later x y ys t)) a
  | inr f ↦ subst (λ zs. IsTrue (is_first z zs)) (sym (with-here x y ys f)) h
]

with-ascends : (x : StateId) (ys : List StateId) → IsTrue (are_ascending ys) → IsFalse (is_among x ys) → IsTrue (are_ascending (with_state x ys))
with-ascends x [] a n = refl
with-ascends x (y ∷ ys) a n =
    let parts = up-parts y ys a in
    let apart = or_parts (same_id x y) (is_among x ys) n in
    elim (cases_Bool (is_before y x)) [
      | inl t ↦
          subst (λ zs. IsTrue (are_ascending zs)) (sym (with-later x y ys t))
          (up-from y (with_state x ys) (with-first y x ys t parts.0) (with-ascends x ys parts.1 apart.1))
      | inr f ↦
          subst (λ zs. IsTrue (are_ascending zs)) (sym (with-here x y ys f)) (up-from x (y ∷ ys) (before-or-same x y f apart.0) a)
    ]

with-others : (z x : StateId) (ys : List StateId) → IsFalse (same_id z x) → IsFalse (is_among z ys) → IsFalse (is_among z (with_state x ys))
with-others z x [] h n = or_from (same_id z x) false h refl
with-others z x (y ∷ ys) h n =
    let apart = or_parts (same_id z y) (is_among z ys) n in
    elim (cases_Bool (is_before y x)) [
      | inl t ↦
          subst (λ zs. IsFalse (is_among z zs)) (sym (with-later x y ys t))
          (or_from (same_id z y) (is_among z (with_state x ys)) apart.0 (with-others z x ys h apart.1))
      | inr f ↦ subst (λ zs. IsFalse (is_among z zs)) (sym (with-here x y ys f)) (or_from (same_id z x) (is_among z (y ∷ ys)) h n)
    ]

order-others : (z : StateId) (xs : List StateId) → IsFalse (is_among z xs) → IsFalse (is_among z (in_order xs))
order-others z [] n = refl
order-others z (x ∷ xs) n =
    let apart = or_parts (same_id z x) (is_among z xs) n in
    with-others z x (in_order xs) apart.0 (order-others z xs apart.1)

pub order-length : (xs : List StateId) → length (in_order xs) ≡ length xs
order-length [] = refl
order-length (x ∷ xs) = omega (arith, with-length x (in_order xs), order-length xs)

pub order-ids : (xs : List StateId) → IsTrue (list_all is_id xs) → IsTrue (list_all is_id (in_order xs))
order-ids [] a = refl
order-ids (x ∷ xs) a = with-ids x (in_order xs) (first (is_id x) (list_all is_id xs) a) (order-ids xs (second (is_id x) (list_all is_id xs) a))

-- states of which no pair is comparable are apart
pub apart-from-none : (rs : List Record) (xs : List StateId) → comparable_pair rs xs ≡ None → IsTrue (are_apart rs xs)
apart-from-none rs xs e = ap is_none e

-- states that are apart are different, so their order ascends
pub order-ascends : (rs : List Record) (xs : List StateId) → IsTrue (are_apart rs xs) → IsTrue (are_ascending (in_order xs))
order-ascends rs [] h = refl
order-ascends rs (x ∷ xs) h =
    let parts = and_parts (not (list_any (are_comparable rs x) xs)) (are_apart rs xs) (sym (apart-means-incomparable rs x xs) ∙ h) in
    let other : IsFalse (is_among x xs) = false_from_ne_true (is_among x xs) (λ m.
    both_ways (list_any (are_comparable rs x) xs) (not-true (list_any (are_comparable rs x) xs) parts.0)
    (any-from (are_comparable rs x) xs x m (or_left (is_above rs x x) (is_above rs x x) (above-reflexive rs x)))) in
    with-ascends x (in_order xs) (order-ascends rs xs parts.1) (order-others x xs other)
