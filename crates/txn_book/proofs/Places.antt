-- Places of transactions, and those of them that aren't empty.
use Rattle.std.proofs.Common.{◌≡◌, ℕ, Bool, cond, ap₂, eqb-true, true, false, ◌==◌, not, nat_lt, List, [], ◌∷◌, Option, Some, None, inl, inr, refl, sym, ap, subst, ◌∙◌, arith}
use Rattle.std.specs.List.{AllByRecursion, IsDistinct}
use Rattle.std.specs.List.Sorted.{IsStrictlySortedBy}
use Rattle.std.specs.Map.{lookup, set_value, keys_of}
use Rattle.std.specs.BTreeMap.{is_at}
use Rattle.std.specs.Option.{option_map}
use Rattle.std.specs.Ordering.{nat_cmp, eq_by_cmp}
use Rattle.std.specs.declared.cmp.Ordering.TheVariants.{Less}
use Rattle.std.specs.Cmp.{nat_cmp_total, eq_by_cmp_equiv}
use Rattle.std.proofs.lemmas.Bool.{cases_Bool, cond-true, cond-false}
use Rattle.std.proofs.lemmas.Bool.Decides.{nat_tests}
use Rattle.std.proofs.lemmas.Option.{none-some, same_Some}
use Rattle.std.proofs.lemmas.Map.{lookup-none}
use Rattle.std.proofs.lemmas.Map.Entries.{none_past_head}
use Rattle.std.proofs.lemmas.Map.Keys.{IsDistinct-tail, sorted_head, sorted_tail}
use Rattle.plain_dag.specs.Entries.{entry_of, with_entry, changed, without_entry}
use Rattle.txn_book.specs.Places.{opened, open_of}
use Rattle.txn_book.proofs.Entries.{at-number, looked-up, entry-here, entry-later, changed-here, changed-later}

below-number : (k n : ℕ) → nat_cmp k n ≡ Less → nat_lt k n ≡ true
below-number k n e = grind (arith, nat_tests)

below-both : (k m n : ℕ) → nat_lt k m ≡ true → nat_lt m n ≡ true → nat_lt k n ≡ true
below-both k m n a b = grind (arith, nat_tests)

apart : (k n : ℕ) → nat_lt k n ≡ true → (k == n) ≡ false
apart k n t = grind (arith, nat_tests)

not-below-itself : (k n : ℕ) → (k == n) ≡ true → nat_lt k n ≡ false
not-below-itself k n t = grind (arith, nat_tests)

not-above-itself : (k n : ℕ) → (k == n) ≡ true → nat_lt n k ≡ false
not-above-itself k n t = grind (arith, nat_tests)

above-others : (k n : ℕ) → (k == n) ≡ false → nat_lt k n ≡ false → nat_lt n k ≡ true
above-others k n differ not_below = grind (arith, nat_tests)

not-apart : (k m n : ℕ) → nat_lt k m ≡ false → nat_lt m k ≡ false → nat_lt m n ≡ true → nat_lt k n ≡ true
not-apart k m n a b c = grind (arith, nat_tests)

all-above-it : (n m : ℕ) (ms : List ℕ) → nat_lt n m ≡ true → AllByRecursion (λ k. nat_cmp m k ≡ Less) ms → AllByRecursion (λ k. nat_lt n k ≡ true) ms
all-above-it n m [] lt h = tt
all-above-it n m (k ∷ ms) lt h = (below-both n m k lt (below-number m k h.0), all-above-it n m ms lt h.1)

module _ {A : Type 0} (n : ℕ) where
  -- ===== What is there

  others : (m : ℕ) (o : Option A) (es : List (ℕ × A)) → (n == m) ≡ false → entry_of n (opened m o es) ≡ entry_of n es
  others m None es f = refl
  others m (Some a) es f = entry-later n (m, a) es f

  -- no place is there
  no-place : (es : List (ℕ × Option A)) → ◌≡◌ {A = Option (Option A)} (entry_of n es) None → ◌≡◌ {A = Option A} (entry_of n (open_of es)) None
  no-place [] none = refl
  no-place (e ∷ es) none = elim (cases_Bool (n == e.0)) [
    | inl t ↦ absurd (none-some e.1 (sym none ∙ entry-here n e es t))
    | inr f ↦ others e.0 e.1 (open_of es) f ∙ no-place es (sym (entry-later n e es f) ∙ none)
  ]

  -- a place with something
  full-place : (a : A) (es : List (ℕ × Option A)) → entry_of n es ≡ Some (Some a) → entry_of n (open_of es) ≡ Some a
  full-place a [] found = absurd (none-some (Some a) found)
  full-place a (e ∷ es) found = elim (cases_Bool (n == e.0)) [
    | inl t ↦
        let here : e.1 ≡ Some a = same_Some e.1 (Some a) (sym (entry-here n e es t) ∙ found) in
        subst (λ o. entry_of n (opened e.0 o (open_of es)) ≡ Some a) (sym here) (entry-here n (e.0, a) (open_of es) t)
    | inr f ↦ others e.0 e.1 (open_of es) f ∙ full-place a es (sym (entry-later n e es f) ∙ found)
  ]

  -- an empty place
  empty-place : (es : List (ℕ × Option A)) → IsDistinct (eq_by_cmp nat_cmp) (keys_of es) → entry_of n es ≡ Some None →
      ◌≡◌ {A = Option A} (entry_of n (open_of es)) None
  empty-place [] distinct found = absurd (none-some None found)
  empty-place (e ∷ es) distinct found = elim (cases_Bool (n == e.0)) [
    | inl t ↦
        let here : e.1 ≡ None = same_Some e.1 None (sym (entry-here n e es t) ∙ found) in
        let rest : ◌≡◌ {A = Option (Option A)} (entry_of n es) None =
        sym (looked-up n es) ∙ lookup-none (is_at (nat_cmp n)) es (none_past_head (eq_by_cmp_equiv nat_cmp_total) n e es distinct (at-number n e.0 ∙ t)) in
        subst (λ o. ◌≡◌ {A = Option A} (entry_of n (opened e.0 o (open_of es))) None) (sym here) (no-place es rest)
    | inr f ↦
        others e.0 e.1 (open_of es) f
        ∙ empty-place es (IsDistinct-tail (eq_by_cmp nat_cmp) e.0 (keys_of es) distinct) (sym (entry-later n e es f) ∙ found)
  ]

  -- ===== What changes there

  module _ (f : A → A) where
    changed-first : (m : ℕ) (o : Option A) (es : List (ℕ × A)) → (n == m) ≡ true → opened m (option_map f o) (changed n f es) ≡ changed n f (opened m o es)
    changed-first m None es t = refl
    changed-first m (Some a) es t = sym (changed-here n f (m, a) es t)

    changed-others : (m : ℕ) (o : Option A) (es : List (ℕ × A)) → (n == m) ≡ false → opened m o (changed n f es) ≡ changed n f (opened m o es)
    changed-others m None es e = refl
    changed-others m (Some a) es e = sym (changed-later n f (m, a) es e)

    pub open-changed : (es : List (ℕ × Option A)) → open_of (changed n (option_map f) es) ≡ changed n f (open_of es)
    open-changed [] = refl
    open-changed (e ∷ es) = elim (cases_Bool (n == e.0)) [
      | inl t ↦
          ap open_of (changed-here n (option_map f) e es t)
          ∙ ap (opened e.0 (option_map f e.1)) (open-changed es)
          ∙ changed-first e.0 e.1 (open_of es) t
      | inr o ↦
          ap open_of (changed-later n (option_map f) e es o) ∙ ap (opened e.0 e.1) (open-changed es) ∙ changed-others e.0 e.1 (open_of es) o
    ]

  without-first : (m : ℕ) (o : Option A) (es : List (ℕ × A)) → (n == m) ≡ true → without_entry n es ≡ without_entry n (opened m o es)
  without-first m None es t = refl
  without-first m (Some a) es t = sym (cond-false (not (n == m)) ((m, a) ∷ without_entry n es) (without_entry n es) (ap not t))

  without-others : (m : ℕ) (o : Option A) (es : List (ℕ × A)) → (n == m) ≡ false → opened m o (without_entry n es) ≡ without_entry n (opened m o es)
  without-others m None es f = refl
  without-others m (Some a) es f = sym (cond-true (not (n == m)) ((m, a) ∷ without_entry n es) (without_entry n es) (ap not f))

  abbrev emptied : Option A → Option A
  emptied o = None

  -- a place is emptied
  pub open-emptied : (es : List (ℕ × Option A)) → open_of (changed n emptied es) ≡ without_entry n (open_of es)
  open-emptied [] = refl
  open-emptied (e ∷ es) = elim (cases_Bool (n == e.0)) [
    | inl t ↦ ap open_of (changed-here n emptied e es t) ∙ open-emptied es ∙ without-first e.0 e.1 (open_of es) t
    | inr f ↦ ap open_of (changed-later n emptied e es f) ∙ ap (opened e.0 e.1) (open-emptied es) ∙ without-others e.0 e.1 (open_of es) f
  ]

  -- a place is taken away
  pub open-without : (es : List (ℕ × Option A)) → open_of (without_entry n es) ≡ without_entry n (open_of es)
  open-without [] = refl
  open-without (e ∷ es) = elim (cases_Bool (n == e.0)) [
    | inl t ↦
        ap open_of (cond-false (not (n == e.0)) (e ∷ without_entry n es) (without_entry n es) (ap not t))
        ∙ open-without es
        ∙ without-first e.0 e.1 (open_of es) t
    | inr f ↦
        ap open_of (cond-true (not (n == e.0)) (e ∷ without_entry n es) (without_entry n es) (ap not f))
        ∙ ap (opened e.0 e.1) (open-without es)
        ∙ without-others e.0 e.1 (open_of es) f
  ]

  -- ===== A place that is filled

  module _ (a : A) where
    -- it stands before those of higher numbers
    before-opened : (m : ℕ) (o : Option A) (es : List (ℕ × A)) → nat_lt n m ≡ true → with_entry n a es ≡ (n, a) ∷ es →
        with_entry n a (opened m o es) ≡ (n, a) ∷ opened m o es
    before-opened m None es lt first = first
    before-opened m (Some b) es lt first = rw lt refl

    before-all : (es : List (ℕ × Option A)) → AllByRecursion (λ m. nat_lt n m ≡ true) (keys_of es) → with_entry n a (open_of es) ≡ (n, a) ∷ open_of es
    before-all [] above = refl
    before-all (e ∷ es) above = before-opened e.0 e.1 (open_of es) above.0 (before-all es above.1)

    all-above : (m : ℕ) (ms : List ℕ) → ((k : ℕ) → nat_lt m k ≡ true → nat_lt n k ≡ true) → AllByRecursion (λ k. nat_cmp m k ≡ Less) ms →
        AllByRecursion (λ k. nat_lt n k ≡ true) ms
    all-above m [] up h = tt
    all-above m (k ∷ ms) up h = (up k (below-number m k h.0), all-above m ms up h.1)

    behind-opened : (m : ℕ) (o : Option A) (es : List (ℕ × A)) → nat_lt n m ≡ false → nat_lt m n ≡ true →
        opened m o (with_entry n a es) ≡ with_entry n a (opened m o es)
    behind-opened m None es not_below below = refl
    behind-opened m (Some b) es not_below below = rw (not_below, below) refl

    in-place : (m : ℕ) (o : Option A) (es : List (ℕ × A)) → nat_lt n m ≡ false → nat_lt m n ≡ false → with_entry n a es ≡ (n, a) ∷ es →
        (n, a) ∷ es ≡ with_entry n a (opened m o es)
    in-place m None es not_below not_above first = sym first
    in-place m (Some b) es not_below not_above first = rw (not_below, not_above) refl

    pub open-with : (es : List (ℕ × Option A)) → IsStrictlySortedBy nat_cmp (keys_of es) → open_of (with_entry n (Some a) es) ≡ with_entry n a (open_of es)
    open-with [] sorted = refl
    open-with (e ∷ es) sorted =
        let head = sorted_head nat_cmp e.0 (keys_of es) sorted in
        let later = open-with es (sorted_tail nat_cmp e.0 (keys_of es) sorted) in
        elim (cases_Bool (nat_lt n e.0)) [
          | inl t ↦
              let above : AllByRecursion (λ m. nat_lt n m ≡ true) (keys_of (e ∷ es)) = (t, all-above e.0 (keys_of es) (λ k. below-both n e.0 k t) head) in
              first t ∙ sym (before-all (e ∷ es) above)
          | inr f ↦ elim (cases_Bool (nat_lt e.0 n)) [
            | inl u ↦ behind f u ∙ ap (opened e.0 e.1) later ∙ behind-opened e.0 e.1 (open_of es) f u
            | inr g ↦ replaced f g ∙ in-place e.0 e.1 (open_of es) f g (before-all es (all-above e.0 (keys_of es) (λ k. not-apart n e.0 k f g) head))
          ]
        ]
      where
        first : nat_lt n e.0 ≡ true → open_of (with_entry n (Some a) (e ∷ es)) ≡ (n, a) ∷ open_of (e ∷ es)
        first t = rw t refl

        behind : nat_lt n e.0 ≡ false → nat_lt e.0 n ≡ true → open_of (with_entry n (Some a) (e ∷ es)) ≡ opened e.0 e.1 (open_of (with_entry n (Some a) es))
        behind f u = rw (f, u) refl

        replaced : nat_lt n e.0 ≡ false → nat_lt e.0 n ≡ false → open_of (with_entry n (Some a) (e ∷ es)) ≡ (n, a) ∷ open_of es
        replaced f g = rw (f, g) refl

  -- ===== What a place is filled with

  none-above : (es : List (ℕ × Option A)) → AllByRecursion (λ m. nat_lt n m ≡ true) (keys_of es) → ◌≡◌ {A = Option (Option A)} (entry_of n es) None
  none-above [] above = refl
  none-above (e ∷ es) above = entry-later n e es (apart n e.0 above.0) ∙ none-above es above.1

  set-filled : (w v : Option A) (es : List (ℕ × Option A)) → IsStrictlySortedBy nat_cmp (keys_of es) → entry_of n es ≡ Some v →
      set_value (is_at (nat_cmp n)) es w ≡ with_entry n w es
  set-filled w v [] sorted found = absurd (none-some v found)
  set-filled w v (e ∷ es) sorted found =
      let test : ℕ → Bool = is_at (nat_cmp n) in
      let after : Bool → List (ℕ × Option A) = λ b. cond b ((e.0, w) ∷ es) (e ∷ set_value test es w) in
      let with : Bool → Bool → List (ℕ × Option A) = λ less more. cond less ((n, w) ∷ e ∷ es) (cond more (e ∷ with_entry n w es) ((n, w) ∷ es)) in
      elim (cases_Bool (n == e.0)) [
        | inl t ↦
            ap after (at-number n e.0 ∙ t)
            ∙ ap (λ z. (z, w) ∷ es) (sym (eqb-true n e.0 t))
            ∙ sym (ap₂ with (not-below-itself n e.0 t) (not-above-itself n e.0 t))
        | inr f ↦ elim (cases_Bool (nat_lt n e.0)) [
          | inl lt ↦ absurd (none-some v (sym (none-above (e ∷ es) (lt, all-above-it n e.0 (keys_of es) lt (sorted_head nat_cmp e.0 (keys_of es) sorted))) ∙ found))
          | inr ge ↦
              let later = set-filled w v es (sorted_tail nat_cmp e.0 (keys_of es) sorted) (sym (entry-later n e es f) ∙ found) in
              ap after (at-number n e.0 ∙ f) ∙ ap (λ z. e ∷ z) later ∙ sym (ap₂ with ge (above-others n e.0 f ge))
        ]
      ]

  pub open-filled : (a : A) (v : Option A) (es : List (ℕ × Option A)) → IsStrictlySortedBy nat_cmp (keys_of es) → lookup (is_at (nat_cmp n)) es ≡ Some v →
      open_of (set_value (is_at (nat_cmp n)) es (Some a)) ≡ with_entry n a (open_of es)
  open-filled a v es sorted found = ap open_of (set-filled (Some a) v es sorted (sym (looked-up n es) ∙ found)) ∙ open-with a es sorted

  -- ===== What a look-up finds

  pub found-none : (es : List (ℕ × Option A)) → ◌≡◌ {A = Option (Option A)} (lookup (is_at (nat_cmp n)) es) None → ◌≡◌ {A = Option A} (entry_of n (open_of es)) None
  found-none es none = no-place es (sym (looked-up n es) ∙ none)

  pub found-empty : (es : List (ℕ × Option A)) → IsDistinct (eq_by_cmp nat_cmp) (keys_of es) → lookup (is_at (nat_cmp n)) es ≡ Some None →
      ◌≡◌ {A = Option A} (entry_of n (open_of es)) None
  found-empty es distinct found = empty-place es distinct (sym (looked-up n es) ∙ found)

  pub found-full : (a : A) (es : List (ℕ × Option A)) → lookup (is_at (nat_cmp n)) es ≡ Some (Some a) → entry_of n (open_of es) ≡ Some a
  found-full a es found = full-place a es (sym (looked-up n es) ∙ found)
