-- Entries by ascending numbers: what a change, one entry more and one entry less leave of them.
use Rattle.std.proofs.Common.{◌≡◌, ℕ, suc, ◌<◌, ◌≤◌, Bool, true, not, cond, List, [], ◌∷◌, length, filter, find, Some, None, IsTrue, IsFalse, inl, inr, refl}
use Rattle.std.proofs.Common.{sym, ap, subst, ◌∙◌, arith}
use Rattle.std.specs.Prelude.{◌==◌, ◌&&◌, nat_lt}
use Rattle.std.specs.List.{list_all}
use Rattle.std.specs.Option.{option_map}
use Rattle.std.proofs.lemmas.Bool.{and_parts, and_from, cases_Bool, cond-true, cond-false, cond_both, eqb-true, eq-eqb, ne_eqb, ltb-true, ltb-false, lt-ltb}
use Rattle.std.proofs.lemmas.Bool.{not-true}
use Rattle.std.proofs.lemmas.Option.{none-some, same_Some}
use Rattle.plain_dag.specs.Entries.{entry_of, with_entry, changed, without_entry, have_ascending_numbers}

-- ===== Tests over lists

-- a test that another implies
pub all-implies : {X : Type 0} (p q : X → Bool) → ((x : X) → IsTrue (p x) → IsTrue (q x)) → (xs : List X) → IsTrue (list_all p xs) → IsTrue (list_all q xs)
all-implies p q f [] h = refl
all-implies p q f (x ∷ xs) h =
    let parts = and_parts (p x) (list_all p xs) h in
    and_from (q x) (list_all q xs) (f x parts.0) (all-implies p q f xs parts.1)

-- two tests at once
pub all-both : {X : Type 0} (p q : X → Bool) (xs : List X) → IsTrue (list_all p xs) → IsTrue (list_all q xs) → IsTrue (list_all (λ x. p x && q x) xs)
all-both p q [] h k = refl
all-both p q (x ∷ xs) h k =
    let hs = and_parts (p x) (list_all p xs) h in
    let ks = and_parts (q x) (list_all q xs) k in
    and_from (p x && q x) (list_all (λ y. p y && q y) xs) (and_from (p x) (q x) hs.0 ks.0) (all-both p q xs hs.1 ks.1)

pub all-filtered : {X : Type 0} (p keep : X → Bool) (xs : List X) → IsTrue (list_all p xs) → IsTrue (list_all p (filter keep xs))
all-filtered p keep [] h = refl
all-filtered p keep (x ∷ xs) h =
    let parts = and_parts (p x) (list_all p xs) h in
    let rest = all-filtered p keep xs parts.1 in
    cond_both (keep x) (x ∷ filter keep xs) (filter keep xs) (λ ys. IsTrue (list_all p ys))
    (λ t. and_from (p x) (list_all p (filter keep xs)) parts.0 rest) (λ f. rest)

pub filter-shortens : {X : Type 0} (keep : X → Bool) (xs : List X) → length (filter keep xs) ≤ length xs
filter-shortens keep [] = omega arith
filter-shortens keep (x ∷ xs) =
    let rest = filter-shortens keep xs in
    cond_both (keep x) (x ∷ filter keep xs) (filter keep xs) (λ ys. length ys ≤ suc (length xs)) (λ t. omega arith) (λ f. omega arith)

module _ {A : Type 0} where
  -- ===== Look-ups

  pub entry-here : (n : ℕ) (e : ℕ × A) (es : List (ℕ × A)) → IsTrue (n == e.0) → entry_of n (e ∷ es) ≡ Some e.1
  entry-here n e es t = ap (option_map (λ (d : ℕ × A). d.1)) (cond-true (n == e.0) (Some e) (find (λ (d : ℕ × A). n == d.0) es) t)

  pub entry-later : (n : ℕ) (e : ℕ × A) (es : List (ℕ × A)) → IsFalse (n == e.0) → entry_of n (e ∷ es) ≡ entry_of n es
  entry-later n e es f = ap (option_map (λ (d : ℕ × A). d.1)) (cond-false (n == e.0) (Some e) (find (λ (d : ℕ × A). n == d.0) es) f)

  -- what holds of each entry holds of one that is looked up
  pub entry-passes : (p : ℕ × A → Bool) (n : ℕ) (a : A) (es : List (ℕ × A)) → IsTrue (list_all p es) → entry_of n es ≡ Some a → IsTrue (p (n, a))
  entry-passes p n a [] h e = absurd (none-some a e)
  entry-passes p n a (d ∷ es) h e =
      let parts = and_parts (p d) (list_all p es) h in
      elim (cases_Bool (n == d.0)) [
        | inl t ↦
            let same = same_Some d.1 a (sym (entry-here n d es t) ∙ e) in
            subst (λ b. IsTrue (p (n, b))) same (subst (λ k. IsTrue (p (k, d.1))) (sym (eqb-true n d.0 t)) parts.0)
        | inr f ↦ entry-passes p n a es parts.1 (sym (entry-later n d es f) ∙ e)
      ]

  -- ===== Ascending numbers

  -- the numbers of these stand above k
  abbrev pub are_after : ℕ → List (ℕ × A) → Bool
  are_after k es = list_all (λ (e : ℕ × A). nat_lt k e.0) es

  pub ascending-parts : (e : ℕ × A) (es : List (ℕ × A)) → IsTrue (have_ascending_numbers (e ∷ es)) → IsTrue (are_after e.0 es)
      × IsTrue (have_ascending_numbers es)
  ascending-parts e [] h = (refl, refl)
  ascending-parts e (g ∷ es) h =
      let parts = and_parts (nat_lt e.0 g.0) (have_ascending_numbers (g ∷ es)) h in
      let later = ascending-parts g es parts.1 in (
        and_from (nat_lt e.0 g.0) (are_after e.0 es) parts.0
            (all-implies (λ (d : ℕ × A). nat_lt g.0 d.0) (λ (d : ℕ × A). nat_lt e.0 d.0)
            (λ d t. lt-ltb e.0 d.0 (omega (arith, ltb-true e.0 g.0 parts.0, ltb-true g.0 d.0 t))) es later.0),
        parts.1,
      )

  pub ascending-from : (e : ℕ × A) (es : List (ℕ × A)) → IsTrue (are_after e.0 es) → IsTrue (have_ascending_numbers es) →
      IsTrue (have_ascending_numbers (e ∷ es))
  ascending-from e [] a h = refl
  ascending-from e (g ∷ es) a h =
      and_from (nat_lt e.0 g.0) (have_ascending_numbers (g ∷ es)) (and_parts (nat_lt e.0 g.0) (are_after e.0 es) a).0 h

  -- ===== A change

  pub changed-here : (n : ℕ) (f : A → A) (e : ℕ × A) (es : List (ℕ × A)) → IsTrue (n == e.0) → changed n f (e ∷ es) ≡ (e.0, f e.1) ∷ changed n f es
  changed-here n f e es t = ap (λ (d : ℕ × A). d ∷ changed n f es) (cond-true (n == e.0) (e.0, f e.1) e t)

  pub changed-later : (n : ℕ) (f : A → A) (e : ℕ × A) (es : List (ℕ × A)) → IsFalse (n == e.0) → changed n f (e ∷ es) ≡ e ∷ changed n f es
  changed-later n f e es t = ap (λ (d : ℕ × A). d ∷ changed n f es) (cond-false (n == e.0) (e.0, f e.1) e t)

  pub entry-changed : (n : ℕ) (f : A → A) (es : List (ℕ × A)) → entry_of n (changed n f es) ≡ option_map f (entry_of n es)
  entry-changed n f [] = refl
  entry-changed n f (e ∷ es) = elim (cases_Bool (n == e.0)) [
    | inl t ↦
        ap (entry_of n) (changed-here n f e es t)
        ∙ (entry-here n (e.0, f e.1) (changed n f es) t ∙ sym (ap (option_map f) (entry-here n e es t)))
    | inr u ↦
        ap (entry_of n) (changed-later n f e es u)
        ∙ (entry-later n e (changed n f es) u ∙ (entry-changed n f es ∙ sym (ap (option_map f) (entry-later n e es u))))
  ]

  pub entry-changed_other : (n m : ℕ) (f : A → A) (es : List (ℕ × A)) → (m ≡ n → ⊥) → entry_of m (changed n f es) ≡ entry_of m es
  entry-changed_other n m f [] differ = refl
  entry-changed_other n m f (e ∷ es) differ = elim (cases_Bool (n == e.0)) [
    | inl t ↦
        let u : IsFalse (m == e.0) = ne_eqb m e.0 (λ q. differ (q ∙ sym (eqb-true n e.0 t))) in
        ap (entry_of m) (changed-here n f e es t)
        ∙ (entry-later m (e.0, f e.1) (changed n f es) u ∙ (entry-changed_other n m f es differ ∙ sym (entry-later m e es u)))
    | inr u ↦ ap (entry_of m) (changed-later n f e es u) ∙ elim (cases_Bool (m == e.0)) [
      | inl t ↦ entry-here m e (changed n f es) t ∙ sym (entry-here m e es t)
      | inr v ↦ entry-later m e (changed n f es) v ∙ (entry-changed_other n m f es differ ∙ sym (entry-later m e es v))
    ]
  ]

  pub changed-all : (p q : ℕ × A → Bool) (n : ℕ) (f : A → A) → ((e : ℕ × A) → IsTrue (p e) → IsTrue (q e)) →
      ((e : ℕ × A) → IsTrue (p e) → IsTrue (q (e.0, f e.1))) → (es : List (ℕ × A)) → IsTrue (list_all p es) → IsTrue (list_all q (changed n f es))
  changed-all p q n f old new [] h = refl
  changed-all p q n f old new (e ∷ es) h =
      let parts = and_parts (p e) (list_all p es) h in
      let rest = changed-all p q n f old new es parts.1 in
      elim (cases_Bool (n == e.0)) [
        | inl t ↦
            subst (λ ds. IsTrue (list_all q ds)) (sym (changed-here n f e es t))
            (and_from (q (e.0, f e.1)) (list_all q (changed n f es)) (new e parts.0) rest)
        | inr u ↦
            subst (λ ds. IsTrue (list_all q ds)) (sym (changed-later n f e es u))
            (and_from (q e) (list_all q (changed n f es)) (old e parts.0) rest)
      ]

  pub changed-length : (n : ℕ) (f : A → A) (es : List (ℕ × A)) → length (changed n f es) ≡ length es
  changed-length n f [] = refl
  changed-length n f (e ∷ es) = ap suc (changed-length n f es)

  pub changed-ascends : (n : ℕ) (f : A → A) (es : List (ℕ × A)) → IsTrue (have_ascending_numbers es) → IsTrue (have_ascending_numbers (changed n f es))
  changed-ascends n f [] h = refl
  changed-ascends n f (e ∷ es) h =
      let parts = ascending-parts e es h in
      let rest = changed-ascends n f es parts.1 in
      let after = changed-all (λ (d : ℕ × A). nat_lt e.0 d.0) (λ (d : ℕ × A). nat_lt e.0 d.0) n f (λ d t. t) (λ d t. t) es parts.0 in
      elim (cases_Bool (n == e.0)) [
        | inl t ↦
            subst (λ ds. IsTrue (have_ascending_numbers ds)) (sym (changed-here n f e es t)) (ascending-from (e.0, f e.1) (changed n f es) after rest)
        | inr u ↦ subst (λ ds. IsTrue (have_ascending_numbers ds)) (sym (changed-later n f e es u)) (ascending-from e (changed n f es) after rest)
      ]

  -- ===== One entry more

  pub with_entry-cases : (n : ℕ) (a : A) (e : ℕ × A) (es : List (ℕ × A)) (P : List (ℕ × A) → Type 0) → (n < e.0 → P ((n, a) ∷ e ∷ es)) →
      (e.0 < n → P (e ∷ with_entry n a es)) → (n ≡ e.0 → P ((n, a) ∷ es)) → P (with_entry n a (e ∷ es))
  with_entry-cases n a e es P before after here =
      let behind : List (ℕ × A) = e ∷ with_entry n a es in
      let instead : List (ℕ × A) = (n, a) ∷ es in
      cond_both (nat_lt n e.0) ((n, a) ∷ e ∷ es) (cond (nat_lt e.0 n) behind instead) P (λ t. before (ltb-true n e.0 t))
      (λ u. cond_both (nat_lt e.0 n) behind instead P (λ t. after (ltb-true e.0 n t))
      (λ v. here (omega (arith, ltb-false n e.0 u, ltb-false e.0 n v))))

  pub with_entry-all : (p : ℕ × A → Bool) (n : ℕ) (a : A) (es : List (ℕ × A)) → IsTrue (list_all p es) → IsTrue (p (n, a)) →
      IsTrue (list_all p (with_entry n a es))
  with_entry-all p n a [] h t = and_from (p (n, a)) true t refl
  with_entry-all p n a (e ∷ es) h t =
      let parts = and_parts (p e) (list_all p es) h in
      let rest = with_entry-all p n a es parts.1 t in
      with_entry-cases n a e es (λ ds. IsTrue (list_all p ds)) (λ l. and_from (p (n, a)) (list_all p (e ∷ es)) t h)
      (λ l. and_from (p e) (list_all p (with_entry n a es)) parts.0 rest) (λ l. and_from (p (n, a)) (list_all p es) t parts.1)

  pub with_entry-ascends : (n : ℕ) (a : A) (es : List (ℕ × A)) → IsTrue (have_ascending_numbers es) → IsTrue (have_ascending_numbers (with_entry n a es))
  with_entry-ascends n a [] h = refl
  with_entry-ascends n a (e ∷ es) h =
      let parts = ascending-parts e es h in
      let rest = with_entry-ascends n a es parts.1 in
      with_entry-cases n a e es (λ ds. IsTrue (have_ascending_numbers ds))
      (λ l. and_from (nat_lt n e.0) (have_ascending_numbers (e ∷ es)) (lt-ltb n e.0 l) h)
      (λ l. ascending-from e (with_entry n a es) (with_entry-all (λ (d : ℕ × A). nat_lt e.0 d.0) n a es parts.0 (lt-ltb e.0 n l)) rest)
      (λ l. ascending-from (n, a) es (subst (λ k. IsTrue (are_after k es)) (sym l) parts.0) parts.1)

  pub with_entry-length : (n : ℕ) (a : A) (es : List (ℕ × A)) → length (with_entry n a es) ≤ suc (length es)
  with_entry-length n a [] = omega arith
  with_entry-length n a (e ∷ es) =
      let rest = with_entry-length n a es in
      with_entry-cases n a e es (λ ds. length ds ≤ suc (suc (length es))) (λ l. omega arith) (λ l. omega arith) (λ l. omega arith)

  pub entry-with_entry : (n : ℕ) (a : A) (es : List (ℕ × A)) → entry_of n (with_entry n a es) ≡ Some a
  entry-with_entry n a [] = entry-here n (n, a) [] (eq-eqb n n refl)
  entry-with_entry n a (e ∷ es) =
      let rest = entry-with_entry n a es in
      with_entry-cases n a e es (λ ds. entry_of n ds ≡ Some a) (λ l. entry-here n (n, a) (e ∷ es) (eq-eqb n n refl))
      (λ l. entry-later n e (with_entry n a es) (ne_eqb n e.0 (λ q. omega arith)) ∙ rest) (λ l. entry-here n (n, a) es (eq-eqb n n refl))

  pub entry-with_entry_other : (n m : ℕ) (a : A) (es : List (ℕ × A)) → (m ≡ n → ⊥) → entry_of m (with_entry n a es) ≡ entry_of m es
  entry-with_entry_other n m a [] differ = entry-later m (n, a) [] (ne_eqb m n differ)
  entry-with_entry_other n m a (e ∷ es) differ =
      let rest = entry-with_entry_other n m a es differ in
      let apart : IsFalse (m == n) = ne_eqb m n differ in
      with_entry-cases n a e es (λ ds. entry_of m ds ≡ entry_of m (e ∷ es)) (λ l. entry-later m (n, a) (e ∷ es) apart)
      (λ l. elim (cases_Bool (m == e.0)) [
        | inl t ↦ entry-here m e (with_entry n a es) t ∙ sym (entry-here m e es t)
        | inr u ↦ entry-later m e (with_entry n a es) u ∙ (rest ∙ sym (entry-later m e es u))
      ])
      (λ l. entry-later m (n, a) es apart ∙ sym (entry-later m e es (ne_eqb m e.0 (λ q. differ (q ∙ sym l)))))

  -- ===== One entry less

  pub without_entry-ascends : (n : ℕ) (es : List (ℕ × A)) → IsTrue (have_ascending_numbers es) → IsTrue (have_ascending_numbers (without_entry n es))
  without_entry-ascends n [] h = refl
  without_entry-ascends n (e ∷ es) h =
      let parts = ascending-parts e es h in
      let rest = without_entry-ascends n es parts.1 in
      cond_both (not (n == e.0)) (e ∷ without_entry n es) (without_entry n es) (λ ds. IsTrue (have_ascending_numbers ds))
      (λ t. ascending-from e (without_entry n es) (all-filtered (λ (d : ℕ × A). nat_lt e.0 d.0) (λ (d : ℕ × A). not (n == d.0)) es parts.0) rest) (λ f. rest)

  pub entry-without_entry : (n : ℕ) (es : List (ℕ × A)) → entry_of n (without_entry n es) ≡ None
  entry-without_entry n [] = refl
  entry-without_entry n (e ∷ es) =
      let rest = entry-without_entry n es in
      cond_both (not (n == e.0)) (e ∷ without_entry n es) (without_entry n es) (λ ds. entry_of n ds ≡ None)
      (λ t. entry-later n e (without_entry n es) (not-true (n == e.0) t) ∙ rest) (λ f. rest)

  pub entry-without_entry_other : (n m : ℕ) (es : List (ℕ × A)) → (m ≡ n → ⊥) → entry_of m (without_entry n es) ≡ entry_of m es
  entry-without_entry_other n m [] differ = refl
  entry-without_entry_other n m (e ∷ es) differ =
      let rest = entry-without_entry_other n m es differ in
      elim (cases_Bool (n == e.0)) [
        | inl t ↦
            ap (entry_of m) (cond-false (not (n == e.0)) (e ∷ without_entry n es) (without_entry n es) (ap not t))
            ∙ (rest ∙ sym (entry-later m e es (ne_eqb m e.0 (λ q. differ (q ∙ sym (eqb-true n e.0 t))))))
        | inr u ↦
            ap (entry_of m) (cond-true (not (n == e.0)) (e ∷ without_entry n es) (without_entry n es) (ap not u))
            ∙ elim (cases_Bool (m == e.0)) [
              | inl t ↦ entry-here m e (without_entry n es) t ∙ sym (entry-here m e es t)
              | inr v ↦ entry-later m e (without_entry n es) v ∙ (rest ∙ sym (entry-later m e es v))
            ]
      ]
