-- The entries of a map are those of the definitions.
use Rattle.std.proofs.Common.{◌≡◌, ℕ, Bool, true, false, cond, not, eqb, ltb, List, [], ◌∷◌, map, find, Option, Some, None, refl, sym, ap, ap₂, subst, ◌∙◌}
use Rattle.std.proofs.Common.{inl, inr, eqb-true, arith}
use Rattle.std.specs.Option.{option_map}
use Rattle.std.specs.declared.cmp.Ordering.TheVariants.{Less, Equal, Greater}
use Rattle.std.specs.Ordering.{nat_cmp, is_eq, match_ordering, eq_by_cmp}
use Rattle.std.specs.Map.{lookup, remove_entry, set_value, keys_of}
use Rattle.std.specs.BTreeMap.{insert_entry, is_at}
use Rattle.std.specs.List.{IsDistinct}
use Rattle.std.specs.Cmp.{nat_cmp_total, eq_by_cmp_equiv}
use Rattle.std.proofs.lemmas.Bool.{cases_Bool, cond-true, cond-false}
use Rattle.std.proofs.lemmas.Bool.Decides.{nat_tests}
use Rattle.std.proofs.lemmas.Option.{none-some, same_Some}
use Rattle.std.proofs.lemmas.Map.{lookup-none}
use Rattle.std.proofs.lemmas.Map.Entries.{none_past_head}
use Rattle.std.proofs.lemmas.Map.Keys.{IsDistinct-tail}
use Rattle.plain_dag.specs.Entries.{entry_of, with_entry, changed, without_entry}

-- the query of a number finds that number
at-number : (k n : ℕ) → is_eq (nat_cmp k n) ≡ eqb k n
at-number k n = grind (arith, nat_tests)

same-number : (k n : ℕ) → ltb k n ≡ false → eqb k n ≡ true → ltb n k ≡ false
same-number k n a b = grind (arith, nat_tests)

later-number : (k n : ℕ) → ltb k n ≡ false → eqb k n ≡ false → ltb n k ≡ true
later-number k n a b = grind (arith, nat_tests)

module _ {A B : Type 0} (f : A → B) where
  -- the entries with f of what each has
  abbrev pub mapped : List (ℕ × A) → List (ℕ × B)
  mapped es = map (λ (e : ℕ × A). (e.0, f e.1)) es

module _ {A : Type 0} (k : ℕ) where
  -- a look-up finds what the entry of the number has
  pub looked-up : (es : List (ℕ × A)) → lookup (is_at (nat_cmp k)) es ≡ entry_of k es
  looked-up [] = refl
  looked-up (e ∷ es) =
      let tests = at-number k e.0 in
      let later = looked-up es in
      let get : Option (ℕ × A) → Option A = option_map (λ (d : ℕ × A). d.1) in
      let rest = find (λ (d : ℕ × A). eqb k d.0) es in
      elim (cases_Bool (eqb k e.0)) [
        | inl t ↦ cond-true (is_eq (nat_cmp k e.0)) (Some e.1) (lookup (is_at (nat_cmp k)) es) (tests ∙ t)
            ∙ ap get (sym (cond-true (eqb k e.0) (Some e) rest t))
        | inr n ↦ cond-false (is_eq (nat_cmp k e.0)) (Some e.1) (lookup (is_at (nat_cmp k)) es) (tests ∙ n) ∙ later
            ∙ ap get (sym (cond-false (eqb k e.0) (Some e) rest n))
      ]

module _ {A B : Type 0} (f : A → B) (k : ℕ) where
  -- the entry of what is mapped
  pub entry-mapped : (es : List (ℕ × A)) → entry_of k (mapped f es) ≡ option_map f (entry_of k es)
  entry-mapped [] = refl
  entry-mapped (e ∷ es) =
      let later = entry-mapped es in
      let d : ℕ × B = (e.0, f e.1) in
      let get : Option (ℕ × A) → Option A = option_map (λ (g : ℕ × A). g.1) in
      let get_mapped : Option (ℕ × B) → Option B = option_map (λ (g : ℕ × B). g.1) in
      let rest = find (λ (g : ℕ × A). eqb k g.0) es in
      let rest_mapped = find (λ (g : ℕ × B). eqb k g.0) (mapped f es) in
      elim (cases_Bool (eqb k e.0)) [
        | inl t ↦ ap get_mapped (cond-true (eqb k e.0) (Some d) rest_mapped t) ∙ ap (λ o. option_map f (get o)) (sym (cond-true (eqb k e.0) (Some e) rest t))
        | inr n ↦ ap get_mapped (cond-false (eqb k e.0) (Some d) rest_mapped n) ∙ later
            ∙ ap (λ o. option_map f (get o)) (sym (cond-false (eqb k e.0) (Some e) rest n))
      ]

  -- what is looked up, mapped
  pub entry-found : (es : List (ℕ × A)) → entry_of k (mapped f es) ≡ option_map f (lookup (is_at (nat_cmp k)) es)
  entry-found es = entry-mapped es ∙ ap (option_map f) (sym (looked-up k es))

  -- an entry is inserted
  pub inserted : (a : A) (es : List (ℕ × A)) → mapped f (insert_entry nat_cmp es k a) ≡ with_entry k (f a) (mapped f es)
  inserted a [] = refl
  inserted a (e ∷ es) =
      let later = inserted a es in
      let number = e.0 in
      let held = e.1 in
      let rest : List (ℕ × A) = insert_entry nat_cmp es k a in
      let all : Bool → Bool → List (ℕ × A) = λ less equal. match_ordering (cond less Less (cond equal Equal Greater)) ((k, a) ∷ e ∷ es) ((e.0, a) ∷ es)
      (e ∷ rest) in
      let with : Bool → Bool → List (ℕ × B) = λ less more.
      cond less ((k, f a) ∷ (e.0, f e.1) ∷ mapped f es) (cond more ((e.0, f e.1) ∷ with_entry k (f a) (mapped f es)) ((k, f a) ∷ mapped f es)) in
      elim (cases_Bool (ltb k e.0)) [
        | inl t ↦ ap (λ b. mapped f (all b (eqb k e.0))) t ∙ sym (ap (λ b. with b (ltb e.0 k)) t)
        | inr n ↦ elim (cases_Bool (eqb k e.0)) [
          | inl t ↦
              let m = same-number k e.0 n t in
              let same = eqb-true k e.0 t in
              ap₂ (λ b d. mapped f (all b d)) n t ∙ ap (λ z. (z, f a) ∷ mapped f es) (sym same) ∙ sym (ap₂ with n m)
          | inr o ↦
              let m = later-number k e.0 n o in
              ap₂ (λ b d. mapped f (all b d)) n o ∙ ap (λ z. (e.0, f e.1) ∷ z) later ∙ sym (ap₂ with n m)
        ]
      ]

  -- where no entry has the number, none is left out
  none-left_out : (es : List (ℕ × A)) → ◌≡◌ {A = Option A} (lookup (is_at (nat_cmp k)) es) None → mapped f es ≡ without_entry k (mapped f es)
  none-left_out [] none = refl
  none-left_out (e ∷ es) none = elim (cases_Bool (eqb k e.0)) [
    | inl t ↦ absurd (none-some e.1 (sym none ∙ cond-true (is_eq (nat_cmp k e.0)) (Some e.1) (lookup (is_at (nat_cmp k)) es) (at-number k e.0 ∙ t)))
    | inr n ↦
        let later = none-left_out es (sym (cond-false (is_eq (nat_cmp k e.0)) (Some e.1) (lookup (is_at (nat_cmp k)) es) (at-number k e.0 ∙ n)) ∙ none) in
        let d : ℕ × B = (e.0, f e.1) in
        let rest : List (ℕ × B) = without_entry k (mapped f es) in
        ap (λ z. d ∷ z) later ∙ sym (ap (λ b. cond (not b) (d ∷ rest) rest) n)
  ]

  -- and none is changed
  none-changed : (g : B → B) (es : List (ℕ × A)) → ◌≡◌ {A = Option A} (lookup (is_at (nat_cmp k)) es) None → mapped f es ≡ changed k g (mapped f es)
  none-changed g [] none = refl
  none-changed g (e ∷ es) none = elim (cases_Bool (eqb k e.0)) [
    | inl t ↦ absurd (none-some e.1 (sym none ∙ cond-true (is_eq (nat_cmp k e.0)) (Some e.1) (lookup (is_at (nat_cmp k)) es) (at-number k e.0 ∙ t)))
    | inr n ↦
        let later = none-changed g es (sym (cond-false (is_eq (nat_cmp k e.0)) (Some e.1) (lookup (is_at (nat_cmp k)) es) (at-number k e.0 ∙ n)) ∙ none) in
        let d : ℕ × B = (e.0, f e.1) in
        let c : ℕ × B = (e.0, g (f e.1)) in
        ap (λ z. d ∷ z) later ∙ sym (ap (λ b. cond b c d ∷ changed k g (mapped f es)) n)
  ]

  -- an entry is removed, and no other has its number
  pub removed : (es : List (ℕ × A)) → ◌≡◌ {A = Option A} (lookup (is_at (nat_cmp k)) (remove_entry (is_at (nat_cmp k)) es)) None →
      mapped f (remove_entry (is_at (nat_cmp k)) es) ≡ without_entry k (mapped f es)
  removed [] none = refl
  removed (e ∷ es) none =
      let test : ℕ → Bool = is_at (nat_cmp k) in
      let d : ℕ × B = (e.0, f e.1) in
      let rest : List (ℕ × B) = without_entry k (mapped f es) in
      let left : List (ℕ × A) = remove_entry test es in
      let out : Bool → List (ℕ × A) = λ b. cond b es (e ∷ left) in
      elim (cases_Bool (eqb k e.0)) [
        | inl t ↦
            let is = at-number k e.0 ∙ t in
            let gone : ◌≡◌ {A = Option A} (lookup test es) None = subst (λ b. ◌≡◌ {A = Option A} (lookup test (out b)) None) is none in
            ap (λ b. mapped f (out b)) is ∙ none-left_out es gone ∙ sym (ap (λ b. cond (not b) (d ∷ rest) rest) t)
        | inr n ↦
            let is = at-number k e.0 ∙ n in
            let gone : ◌≡◌ {A = Option A} (lookup test (e ∷ left)) None = subst (λ b. ◌≡◌ {A = Option A} (lookup test (out b)) None) is none in
            let later = removed es (sym (cond-false (is_eq (nat_cmp k e.0)) (Some e.1) (lookup test left) is) ∙ gone) in
            ap (λ b. mapped f (out b)) is ∙ ap (λ z. d ∷ z) later ∙ sym (ap (λ b. cond (not b) (d ∷ rest) rest) n)
      ]

  -- what an entry has is written over, and no other has its number
  pub written : (g : B → B) (es : List (ℕ × A)) (v w : A) → IsDistinct (eq_by_cmp nat_cmp) (keys_of es) → lookup (is_at (nat_cmp k)) es ≡ Some v →
      f w ≡ g (f v) →
      mapped f (set_value (is_at (nat_cmp k)) es w) ≡ changed k g (mapped f es)
  written g [] v w distinct found same = absurd (none-some v found)
  written g (e ∷ es) v w distinct found same =
      let test : ℕ → Bool = is_at (nat_cmp k) in
      let d : ℕ × B = (e.0, f e.1) in
      let c : ℕ × B = (e.0, g (f e.1)) in
      let after : Bool → List (ℕ × A) = λ b. cond b ((e.0, w) ∷ es) (e ∷ set_value test es w) in
      elim (cases_Bool (eqb k e.0)) [
        | inl t ↦
            let is = at-number k e.0 ∙ t in
            let here : e.1 ≡ v = same_Some e.1 v (sym (cond-true (is_eq (nat_cmp k e.0)) (Some e.1) (lookup test es) is) ∙ found) in
            let others = lookup-none test es (none_past_head (eq_by_cmp_equiv nat_cmp_total) k e es distinct is) in
            ap (λ b. mapped f (after b)) is
            ∙ ap₂ (λ y z. (e.0, y) ∷ z) (same ∙ ap (λ z. g (f z)) (sym here)) (none-changed g es others)
            ∙ sym (ap (λ b. cond b c d ∷ changed k g (mapped f es)) t)
        | inr n ↦
            let is = at-number k e.0 ∙ n in
            let later = written g es v w (IsDistinct-tail (eq_by_cmp nat_cmp) e.0 (keys_of es) distinct)
            (sym (cond-false (is_eq (nat_cmp k e.0)) (Some e.1) (lookup test es) is) ∙ found) same in
            ap (λ b. mapped f (after b)) is ∙ ap (λ z. d ∷ z) later ∙ sym (ap (λ b. cond b c d ∷ changed k g (mapped f es)) n)
      ]
