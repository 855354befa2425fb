-- The entries of a map are those of the definitions.
use Rattle.std.proofs.Common.{◌≡◌, ℕ, Bool, true, false, cond, not, eqb, ltb, List, [], ◌∷◌, find, Option, Some, None, IsTrue, IsFalse, refl, sym, ap, ap₂, subst, ◌∙◌}
use Rattle.std.proofs.Common.{inl, inr, eqb-true, arith}
use Rattle.std.specs.Prelude.{◌==◌}
use Rattle.std.specs.Option.{option_map}
use Rattle.std.specs.declared.cmp.Ordering.TheVariants.{Less, Equal, Greater}
use Rattle.std.specs.Ordering.{nat_cmp, is_eq, match_ordering, eq_by_cmp}
use Rattle.std.specs.Map.{lookup, remove_entry, set_value, keys_of}
use Rattle.std.specs.BTreeMap.{insert_entry, is_at}
use Rattle.std.specs.List.Sorted.{IsStrictlySortedBy}
use Rattle.std.specs.List.{IsDistinct}
use Rattle.std.specs.Cmp.{nat_cmp_total, eq_by_cmp_equiv}
use Rattle.std.proofs.lemmas.Bool.{cases_Bool, cond-true, cond-false}
use Rattle.std.proofs.lemmas.Bool.Decides.{nat_tests}
use Rattle.std.proofs.lemmas.Option.{none-some, same_Some}
use Rattle.std.proofs.lemmas.Map.{lookup-none}
use Rattle.std.proofs.lemmas.Map.Entries.{none_past_head}
use Rattle.std.proofs.lemmas.Map.Keys.{IsDistinct-tail, IsDistinct-from_sorted}
use Rattle.plain_dag.specs.Entries.{entry_of, with_entry, changed, without_entry}

-- the query of a number finds that number
pub at-number : (k n : ℕ) → is_eq (nat_cmp k n) ≡ eqb k n
at-number k n = grind (arith, nat_tests)

same-number : (k n : ℕ) → ltb k n ≡ false → eqb k n ≡ true → ltb n k ≡ false
same-number k n a b = grind (arith, nat_tests)

later-number : (k n : ℕ) → ltb k n ≡ false → eqb k n ≡ false → ltb n k ≡ true
later-number k n a b = grind (arith, nat_tests)

module _ {A : Type 0} where
  pub entry-here : (n : ℕ) (e : ℕ × A) (es : List (ℕ × A)) → IsTrue (n == e.0) → entry_of n (e ∷ es) ≡ Some e.1
  entry-here n e es t = ap (option_map (λ (d : ℕ × A). d.1)) (cond-true (n == e.0) (Some e) (find (λ (d : ℕ × A). n == d.0) es) t)

  pub entry-later : (n : ℕ) (e : ℕ × A) (es : List (ℕ × A)) → IsFalse (n == e.0) → entry_of n (e ∷ es) ≡ entry_of n es
  entry-later n e es f = ap (option_map (λ (d : ℕ × A). d.1)) (cond-false (n == e.0) (Some e) (find (λ (d : ℕ × A). n == d.0) es) f)

  pub changed-here : (n : ℕ) (f : A → A) (e : ℕ × A) (es : List (ℕ × A)) → IsTrue (n == e.0) → changed n f (e ∷ es) ≡ (e.0, f e.1) ∷ changed n f es
  changed-here n f e es t = ap (λ (d : ℕ × A). d ∷ changed n f es) (cond-true (n == e.0) (e.0, f e.1) e t)

  pub changed-later : (n : ℕ) (f : A → A) (e : ℕ × A) (es : List (ℕ × A)) → IsFalse (n == e.0) → changed n f (e ∷ es) ≡ e ∷ changed n f es
  changed-later n f e es t = ap (λ (d : ℕ × A). d ∷ changed n f es) (cond-false (n == e.0) (e.0, f e.1) e t)

module _ {A : Type 0} (k : ℕ) where
  -- a look-up finds what the entry of the number has
  pub looked-up : (es : List (ℕ × A)) → lookup (is_at (nat_cmp k)) es ≡ entry_of k es
  looked-up [] = refl
  looked-up (e ∷ es) =
      let tests = at-number k e.0 in
      let later = looked-up es in
      let get : Option (ℕ × A) → Option A = option_map (λ (d : ℕ × A). d.1) in
      let rest = find (λ (d : ℕ × A). eqb k d.0) es in
      elim (cases_Bool (eqb k e.0)) [
        | inl t ↦ cond-true (is_eq (nat_cmp k e.0)) (Some e.1) (lookup (is_at (nat_cmp k)) es) (tests ∙ t)
            ∙ ap get (sym (cond-true (eqb k e.0) (Some e) rest t))
        | inr n ↦ cond-false (is_eq (nat_cmp k e.0)) (Some e.1) (lookup (is_at (nat_cmp k)) es) (tests ∙ n) ∙ later
            ∙ ap get (sym (cond-false (eqb k e.0) (Some e) rest n))
      ]

  -- an entry is inserted
  pub is-inserted : (a : A) (es : List (ℕ × A)) → insert_entry nat_cmp es k a ≡ with_entry k a es
  is-inserted a [] = refl
  is-inserted a (e ∷ es) =
      let later = is-inserted a es in
      let rest : List (ℕ × A) = insert_entry nat_cmp es k a in
      let all : Bool → Bool → List (ℕ × A) = λ less equal. match_ordering (cond less Less (cond equal Equal Greater)) ((k, a) ∷ e ∷ es) ((e.0, a) ∷ es)
      (e ∷ rest) in
      let with : Bool → Bool → List (ℕ × A) = λ less more. cond less ((k, a) ∷ e ∷ es) (cond more (e ∷ with_entry k a es) ((k, a) ∷ es)) in
      elim (cases_Bool (ltb k e.0)) [
        | inl t ↦ ap (λ b. all b (eqb k e.0)) t ∙ sym (ap (λ b. with b (ltb e.0 k)) t)
        | inr n ↦ elim (cases_Bool (eqb k e.0)) [
          | inl t ↦
              let m = same-number k e.0 n t in
              let same = eqb-true k e.0 t in
              ap₂ all n t ∙ ap (λ z. (z, a) ∷ es) (sym same) ∙ sym (ap₂ with n m)
          | inr o ↦
              let m = later-number k e.0 n o in
              ap₂ all n o ∙ ap (λ z. e ∷ z) later ∙ sym (ap₂ with n m)
        ]
      ]

  -- where there is no such entry, none is taken away
  pub without-none : (es : List (ℕ × A)) → ◌≡◌ {A = Option A} (entry_of k es) None → es ≡ without_entry k es
  without-none [] none = refl
  without-none (e ∷ es) none = elim (cases_Bool (k == e.0)) [
    | inl t ↦ absurd (none-some e.1 (sym none ∙ entry-here k e es t))
    | inr o ↦
        ap (λ (ds : List (ℕ × A)). e ∷ ds) (without-none es (sym (entry-later k e es o) ∙ none))
        ∙ sym (cond-true (not (k == e.0)) (e ∷ without_entry k es) (without_entry k es) (ap not o))
  ]

  -- and none is changed
  none-changed : (g : A → A) (es : List (ℕ × A)) → ◌≡◌ {A = Option A} (entry_of k es) None → es ≡ changed k g es
  none-changed g [] none = refl
  none-changed g (e ∷ es) none = elim (cases_Bool (eqb k e.0)) [
    | inl t ↦ absurd (none-some e.1 (sym none ∙ entry-here k e es t))
    | inr n ↦ ap (λ (ds : List (ℕ × A)). e ∷ ds) (none-changed g es (sym (entry-later k e es n) ∙ none)) ∙ sym (changed-later k g e es n)
  ]

  -- an entry is removed, and no other has its number
  pub is-removed : (es : List (ℕ × A)) → ◌≡◌ {A = Option A} (lookup (is_at (nat_cmp k)) (remove_entry (is_at (nat_cmp k)) es)) None →
      remove_entry (is_at (nat_cmp k)) es ≡ without_entry k es
  is-removed [] none = refl
  is-removed (e ∷ es) none =
      let test : ℕ → Bool = is_at (nat_cmp k) in
      let rest : List (ℕ × A) = without_entry k es in
      let left : List (ℕ × A) = remove_entry test es in
      let out : Bool → List (ℕ × A) = λ b. cond b es (e ∷ left) in
      elim (cases_Bool (eqb k e.0)) [
        | inl t ↦
            let is = at-number k e.0 ∙ t in
            let gone : ◌≡◌ {A = Option A} (lookup test es) None = subst (λ b. ◌≡◌ {A = Option A} (lookup test (out b)) None) is none in
            ap out is ∙ without-none es (sym (looked-up es) ∙ gone) ∙ sym (ap (λ b. cond (not b) (e ∷ rest) rest) t)
        | inr n ↦
            let is = at-number k e.0 ∙ n in
            let gone : ◌≡◌ {A = Option A} (lookup test (e ∷ left)) None = subst (λ b. ◌≡◌ {A = Option A} (lookup test (out b)) None) is none in
            let later = is-removed es (sym (cond-false (is_eq (nat_cmp k e.0)) (Some e.1) (lookup test left) is) ∙ gone) in
            ap out is ∙ ap (λ z. e ∷ z) later ∙ sym (ap (λ b. cond (not b) (e ∷ rest) rest) n)
      ]

  module _ (g : A → A) where
    written : (es : List (ℕ × A)) (v : A) → IsDistinct (eq_by_cmp nat_cmp) (keys_of es) → lookup (is_at (nat_cmp k)) es ≡ Some v →
        set_value (is_at (nat_cmp k)) es (g v) ≡ changed k g es
    written [] v distinct found = absurd (none-some v found)
    written (e ∷ es) v distinct found =
        let test : ℕ → Bool = is_at (nat_cmp k) in
        let w = g v in
        let after : Bool → List (ℕ × A) = λ b. cond b ((e.0, w) ∷ es) (e ∷ set_value test es w) in
        elim (cases_Bool (eqb k e.0)) [
          | inl t ↦
              let is = at-number k e.0 ∙ t in
              let here : e.1 ≡ v = same_Some e.1 v (sym (cond-true (is_eq (nat_cmp k e.0)) (Some e.1) (lookup test es) is) ∙ found) in
              let others = lookup-none test es (none_past_head (eq_by_cmp_equiv nat_cmp_total) k e es distinct is) in
              ap after is
              ∙ ap₂ (λ y z. (e.0, y) ∷ z) (ap g (sym here)) (none-changed g es (sym (looked-up es) ∙ others))
              ∙ sym (changed-here k g e es t)
          | inr n ↦
              let is = at-number k e.0 ∙ n in
              let later = written es v (IsDistinct-tail (eq_by_cmp nat_cmp) e.0 (keys_of es) distinct)
              (sym (cond-false (is_eq (nat_cmp k e.0)) (Some e.1) (lookup test es) is) ∙ found) in
              ap after is ∙ ap (λ z. e ∷ z) later ∙ sym (changed-later k g e es n)
        ]

    -- what an entry has is written over, and no other has its number
    pub is-written : (es : List (ℕ × A)) (v : A) → IsStrictlySortedBy nat_cmp (keys_of es) → lookup (is_at (nat_cmp k)) es ≡ Some v →
        set_value (is_at (nat_cmp k)) es (g v) ≡ changed k g es
    is-written es v ordered found = written es v (IsDistinct-from_sorted nat_cmp (keys_of es) ordered) found
