-- The slot that one more state gets.
use Rattle.std.proofs.Common.{◌≡◌, ℕ, suc, ◌+◌, ◌<◌, ◌≤◌, true, false, eqb, ltb, List, [], ◌∷◌, ◌++◌, length, get_or, set, slice_get, take, unwrap_or, Some}
use Rattle.std.proofs.Common.{inl, inr, refl, sym, ap, subst, ◌∙◌, length-append, arith}
use Rattle.std.specs.List.{list_all}
use Rattle.std.proofs.lemmas.Bool.{and_parts, and_from, or_parts, or_from, cases_lt, cond-true, cond-false, lt-ltb, le-ltb, ltb-true, ne_eqb, eq-eqb, both_ways}
use Rattle.std.proofs.lemmas.List.{length-set}
use Rattle.std.proofs.lemmas.Option.{slice_get_past}
use Rattle.tardis_base.specs.declared.ids.Slot.{Slot}
use Rattle.state_dag.specs.declared.StateDag.TheInside.{Inside}
use Rattle.state_dag.specs.declared.nodes.Node.{Node}
use Rattle.state_dag.specs.Grown.{is_slot_among}
use Rattle.state_dag.specs.Nodes.{with_node, slot_after_all, with_slot, AreDistinct}
use Rattle.state_dag.specs.Held.{kept_of, IsHeld}
use Rattle.state_dag.proofs.KeptEntries.{placed-wider}
use Rattle.state_dag.proofs.Passing.{all-at}

read-at : (xs : List Slot) (k : ℕ) (d : Slot) → k < length xs → slice_get xs k ≡ Some (get_or xs k d)
read-at [] k d lt = absurd (omega arith)
read-at (x ∷ xs) ℕ.zero d lt = refl
read-at (x ∷ xs) (ℕ.suc k) d lt = read-at xs k d (omega arith)

-- one of distinct slots isn't among those before it
distinct-before : (xs : List Slot) (k : ℕ) (d : Slot) → AreDistinct xs → k < length xs → is_slot_among (get_or xs k d) (take k xs) ≡ false
distinct-before xs ℕ.zero d distinct lt = refl
distinct-before [] (ℕ.suc k) d distinct lt = refl
distinct-before (x ∷ xs) (ℕ.suc k) d distinct lt =
    or_from (eqb x.0 (get_or xs k d).0) (is_slot_among (get_or xs k d) (take k xs))
    (ne_eqb x.0 (get_or xs k d).0 (λ e. none xs k (omega arith) e distinct.0)) (distinct-before xs k d distinct.1 (omega arith))
  where
    none : (ys : List Slot) (j : ℕ) → j < length ys → x.0 ≡ (get_or ys j d).0 → is_slot_among x ys ≡ false → ⊥
    none [] j less e out = omega arith
    none (y ∷ ys) ℕ.zero less e out = both_ways (eqb y.0 x.0) (or_parts (eqb y.0 x.0) (is_slot_among x ys) out).0 (eq-eqb y.0 x.0 (sym e))
    none (y ∷ ys) (ℕ.suc j) less e out = none ys j (omega arith) e (or_parts (eqb y.0 x.0) (is_slot_among x ys) out).1

take-one-more : (xs : List Slot) (k : ℕ) (d : Slot) → k < length xs → take (k + 1) xs ≡ take k xs ++ get_or xs k d ∷ []
take-one-more [] k d lt = absurd (omega arith)
take-one-more (x ∷ xs) ℕ.zero d lt = go xs
  where
    go : (ys : List Slot) → take (0 + 1) (x ∷ ys) ≡ x ∷ []
    go [] = refl
    go (y ∷ ys) = refl
take-one-more (x ∷ xs) (ℕ.suc k) d lt =
    let next : suc k + 1 ≡ suc (k + 1) = omega arith in
    ap (λ (m : ℕ). take m (x ∷ xs)) next ∙ ap (λ ys. x ∷ ys) (take-one-more xs k d (omega arith))

take-whole : (xs : List Slot) (k : ℕ) → length xs ≤ k → take k xs ≡ xs
take-whole [] ℕ.zero le = refl
take-whole [] (ℕ.suc k) le = refl
take-whole (x ∷ xs) ℕ.zero le = absurd (omega arith)
take-whole (x ∷ xs) (ℕ.suc k) le = ap (λ ys. x ∷ ys) (take-whole xs k (omega arith))

-- a slot behind all places is none of these
placed-out : (n : ℕ) (xs : List Slot) (s : Slot) → n ≤ s.0 → list_all (λ t. ltb t.0 n) xs ≡ true → is_slot_among s xs ≡ false
placed-out n [] s le all = refl
placed-out n (x ∷ xs) s le all =
    let parts = and_parts (ltb x.0 n) (list_all (λ (t : Slot). ltb t.0 n) xs) all in
    let lt = ltb-true x.0 n parts.0 in
    or_from (eqb x.0 s.0) (is_slot_among s xs) (ne_eqb x.0 s.0 (λ e. omega arith)) (placed-out n xs s le parts.1)

distinct-put : (xs : List Slot) (s : Slot) → AreDistinct xs → is_slot_among s xs ≡ false → AreDistinct (xs ++ s ∷ [])
distinct-put [] s d out = (refl, tt)
distinct-put (x ∷ xs) s d out =
    let parts = or_parts (eqb x.0 s.0) (is_slot_among s xs) out in
    (put xs d.0, distinct-put xs s d.1 parts.1)
  where
    other : eqb s.0 x.0 ≡ false
    other = ne_eqb s.0 x.0 (λ e. both_ways (eqb x.0 s.0) (or_parts (eqb x.0 s.0) (is_slot_among s xs) out).0 (eq-eqb x.0 s.0 (sym e)))

    put : (ys : List Slot) → is_slot_among x ys ≡ false → is_slot_among x (ys ++ s ∷ []) ≡ false
    put [] o = or_from (eqb s.0 x.0) false other refl
    put (y ∷ ys) o = (let parts = or_parts (eqb y.0 x.0) (is_slot_among x ys) o in
        or_from (eqb y.0 x.0) (is_slot_among x (ys ++ s ∷ [])) parts.0 (put ys parts.1))

placed-put : (n : ℕ) (xs : List Slot) (s : Slot) → s.0 < n → list_all (λ t. ltb t.0 n) xs ≡ true → list_all (λ t. ltb t.0 n) (xs ++ s ∷ []) ≡ true
placed-put n [] s lt all = and_from (ltb s.0 n) true (lt-ltb s.0 n lt) refl
placed-put n (x ∷ xs) s lt all =
    let parts = and_parts (ltb x.0 n) (list_all (λ (t : Slot). ltb t.0 n) xs) all in
    and_from (ltb x.0 n) (list_all (λ (t : Slot). ltb t.0 n) (xs ++ s ∷ [])) parts.0 (placed-put n xs s lt parts.1)

-- the next slot is none of those in use, and with it one more is in use
pub record IsNext (a : Inside) (slot : Slot) (ns : List Node) (n : Node) : Type 0 where
  pub out : is_slot_among slot (kept_of a) ≡ false
  pub within : slot.0 ≤ length a.nodes.items
  pub taken : take (a.kept + 1) (with_slot a.order.items a.kept slot) ≡ kept_of a ++ slot ∷ []
  pub inside : a.kept + 1 ≤ length (with_slot a.order.items a.kept slot)
  pub all : length (with_slot a.order.items a.kept slot) ≡ length (with_node ns slot.0 n)
  pub few : length (with_node ns slot.0 n) ≤ a.limits.max_kept
  pub set_in : list_all (λ s. ltb s.0 (length (with_node ns slot.0 n))) (with_slot a.order.items a.kept slot) ≡ true
  pub distinct : AreDistinct (with_slot a.order.items a.kept slot)

pub next-slot : (a : Inside) → IsHeld a → (slot : Slot) → slot ≡ slot_after_all a.order.items a.kept → (ns : List Node) (n : Node) →
    length ns ≡ length a.nodes.items → a.kept < a.limits.max_kept → IsNext a slot ns n
next-slot a held slot is ns n count room = elim (cases_lt a.kept (length a.order.items)) [
  | inl lt ↦
      let order = a.order.items in
      let here : slot ≡ get_or order a.kept slot = is ∙ ap (λ o. unwrap_or o (record { 0 = a.kept })) (read-at order a.kept slot lt) in
      let same : with_slot order a.kept slot ≡ order = cond-true (ltb a.kept (length order)) order (order ++ slot ∷ []) (lt-ltb a.kept (length order) lt) in
      let all = held.all in
      let place = ltb-true (get_or order a.kept slot).0 (length a.nodes.items)
      (all-at (λ (s : Slot). ltb s.0 (length a.nodes.items)) order a.kept slot held.placed lt) in
      let number = ap (λ (s : Slot). s.0) here in
      let put : with_node ns slot.0 n ≡ set ns slot.0 n = cond-true (ltb slot.0 (length ns)) (set ns slot.0 n) (ns ++ n ∷ [])
      (lt-ltb slot.0 (length ns) (omega arith)) in
      let long = ap length put ∙ length-set ns slot.0 n in
      let listed = ap length same in
      record {
        out = subst (λ s. is_slot_among s (kept_of a) ≡ false) (sym here) (distinct-before order a.kept slot held.distinct lt);
        within = omega arith;
        taken = ap (take (a.kept + 1)) same ∙ take-one-more order a.kept slot lt ∙ ap (λ s. kept_of a ++ s ∷ []) (sym here);
        inside = omega arith;
        all = omega arith;
        few = (let few = held.few in omega arith);
        set_in = subst (λ ss. list_all (λ (s : Slot). ltb s.0 (length (with_node ns slot.0 n))) ss ≡ true) (sym same)
            (placed-wider (length a.nodes.items) (length (with_node ns slot.0 n)) order (omega arith) held.placed);
        distinct = subst AreDistinct (sym same) held.distinct;
      }
  | inr ge ↦
      let order = a.order.items in
      let inside = held.inside in
      let full : length order ≡ a.kept = omega arith in
      let here : slot ≡ record { 0 = a.kept } = is ∙ ap (λ o. unwrap_or o (record { 0 = a.kept })) (slice_get_past order a.kept ge) in
      let number = ap (λ (s : Slot). s.0) here in
      let same : with_slot order a.kept slot ≡ order ++ slot ∷ [] =
      cond-false (ltb a.kept (length order)) order (order ++ slot ∷ []) (le-ltb a.kept (length order) ge) in
      let all = held.all in
      let out = placed-out (length a.nodes.items) order slot (omega arith) held.placed in
      let put : with_node ns slot.0 n ≡ ns ++ n ∷ [] = cond-false (ltb slot.0 (length ns)) (set ns slot.0 n) (ns ++ n ∷ [])
      (le-ltb slot.0 (length ns) (omega arith)) in
      let long = ap length put ∙ length-append ns (n ∷ []) in
      let more = length-append order (slot ∷ []) in
      let listed = ap length same in
      let whole : take a.kept order ≡ order = take-whole order a.kept (omega arith) in
      record {
        out = subst (λ ss. is_slot_among slot ss ≡ false) (sym whole) out;
        within = omega arith;
        taken = ap (take (a.kept + 1)) same ∙ take-whole (order ++ slot ∷ []) (a.kept + 1) (omega arith) ∙ ap (λ ss. ss ++ slot ∷ []) (sym whole);
        inside = omega arith;
        all = omega arith;
        few = omega arith;
        set_in = subst (λ ss. list_all (λ (s : Slot). ltb s.0 (length (with_node ns slot.0 n))) ss ≡ true) (sym same)
            (placed-put (length (with_node ns slot.0 n)) order slot (omega arith)
            (placed-wider (length a.nodes.items) (length (with_node ns slot.0 n)) order (omega arith) held.placed));
        distinct = subst AreDistinct (sym same) (distinct-put order slot held.distinct out);
      }
]
