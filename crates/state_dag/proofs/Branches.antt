-- Which pairs a fork path has, each once.
use Rattle.std.proofs.Common.{◌≡◌, ℕ, zero, suc, ◌+◌, ◌<◌, ◌≤◌, Bool, true, false, ◌&&◌, eqb, ltb, List, [], ◌∷◌, length, filter, flat_map, slice_get, Option}
use Rattle.std.proofs.Common.{Some, None, IsTrue, inl, inr, refl, sym, ap, ap₂, subst, ◌∙◌, eqb-true, eq-eqb, arith}
use Rattle.std.specs.List.{list_any, range_with_len}
use Rattle.std.specs.Option.{option_map_or}
use Rattle.std.proofs.lemmas.Bool.{and_parts, and_from, or_cases, or_left, or_right, cases_Bool, both_ways, false_from_ne_true, lt-ltb, ltb-true}
use Rattle.std.proofs.lemmas.Option.{slice_get_within}
use Rattle.std.proofs.lemmas.List.Folds.{list_any-append}
use Rattle.std.proofs.lemmas.Map.Views.{any-filter_same}
use Rattle.tardis_base.specs.declared.ids.StateId.{StateId}
use Rattle.tardis_base.specs.declared.records.Record.{Record}
use Rattle.tardis_base.specs.Ids.{same_id, is_among}
use Rattle.plain_dag.specs.States.{children}
use Rattle.plain_dag.specs.Above.{is_above}
use Rattle.plain_dag.specs.Dag.{IsDag}
use Rattle.plain_dag.specs.Collection.{is_kept, kept_states}
use Rattle.plain_dag.specs.Paths.{is_fork, branches_of, branches, leads_to, fork_path}
use Rattle.plain_dag.proofs.Ids.{not-both, same_id-true, same_id_self, same_id_from}
use Rattle.plain_dag.proofs.Searches.{among-filter, filtered-passes}
use Rattle.state_dag.proofs.Places.{AllDiffer}
use Rattle.state_dag.proofs.Known.{kept-is_listed, listed-is_kept, kept-differ}
use Rattle.state_dag.proofs.Counting.{Differ, any-map, differ-filter, differ-append, differ-map}

-- ===== Branches

-- the two are one branch
abbrev pub is_same_branch : StateId × ℕ → StateId × ℕ → Bool
is_same_branch a b = same_id a.0 b.0 && eqb a.1 b.1

pub same_branch-itself : (a : StateId × ℕ) → IsTrue (is_same_branch a a)
same_branch-itself a = and_from (same_id a.0 a.0) (eqb a.1 a.1) (same_id_self a.0) (eq-eqb a.1 a.1 refl)

pub same_branch-true : (a b : StateId × ℕ) → IsTrue (is_same_branch a b) → a ≡ b
same_branch-true a b h =
    let p = and_parts (same_id a.0 b.0) (eqb a.1 b.1) h in
    let pair : StateId → ℕ → StateId × ℕ = λ x n. (x, n) in
    ap₂ pair (same_id-true a.0 b.0 p.0) (eqb-true a.1 b.1 p.1)

-- the branch is one of these
abbrev pub has_branch : StateId × ℕ → List (StateId × ℕ) → Bool
has_branch b bs = list_any (is_same_branch b) bs

-- ===== Numbers

below-first : (a k n : ℕ) → k < a → list_any (eqb k) (range_with_len a n) ≡ false
below-first a k zero lt = refl
below-first a k (suc n) lt =
    let other : eqb k a ≡ false = false_from_ne_true (eqb k a) (λ t. let e = eqb-true k a t in omega arith) in
    rw other (below-first (a + 1) k n (omega arith))

numbers-differ : (a n : ℕ) → Differ eqb (range_with_len a n)
numbers-differ a zero = tt
numbers-differ a (suc n) = (below-first (a + 1) a n (omega arith), numbers-differ (a + 1) n)

pub number-there : (a k n : ℕ) → a ≤ k → k < a + n → list_any (eqb k) (range_with_len a n) ≡ true
number-there a k zero le lt = absurd (omega arith)
number-there a k (suc n) le lt = elim (cases_Bool (eqb k a)) [
  | inl t ↦ or_left (eqb k a) (list_any (eqb k) (range_with_len (a + 1) n)) t
  | inr f ↦
      let further : a + 1 ≤ k = later f in
      or_right (eqb k a) (list_any (eqb k) (range_with_len (a + 1) n)) (number-there (a + 1) k n further (omega arith))
]
  where
    later : eqb k a ≡ false → a + 1 ≤ k
    later f = elim (cases_Bool (ltb a k)) [
      | inl t ↦ (let lt = ltb-true a k t in omega arith)
      | inr n ↦ absurd (both_ways (eqb k a) f (eq-eqb k a (let no : a < k → ⊥ = λ h. both_ways (ltb a k) n (lt-ltb a k h) in omega arith)))
    ]

-- ===== Branches of a state, and of several

module _ (rs : List Record) where
  -- a branch of x is one of x
  of-state : (x : StateId) (b : StateId × ℕ) (ns : List ℕ) → IsTrue (list_any (λ n. is_same_branch b (x, n)) ns) → b.0 ≡ x
  of-state x b [] h = not-both true refl (sym h)
  of-state x b (n ∷ ns) h = elim (or_cases (is_same_branch b (x, n)) (list_any (λ m. is_same_branch b (x, m)) ns) h) [
    | inl t ↦ same_id-true b.0 x (and_parts (same_id b.0 x) (eqb b.1 n) t).0
    | inr m ↦ of-state x b ns m
  ]

  branch-of : (x : StateId) (b : StateId × ℕ) → IsTrue (has_branch b (branches_of rs x)) → b.0 ≡ x
  branch-of x b h =
      let number : ℕ → StateId × ℕ = λ n. (x, n) in
      of-state x b (range_with_len 0 (length (children rs x))) (sym (any-map (is_same_branch b) number (range_with_len 0 (length (children rs x)))) ∙ h)

  -- a branch of these is one of one of them
  branch-among : (xs : List StateId) (b : StateId × ℕ) → IsTrue (has_branch b (flat_map (branches_of rs) xs)) → IsTrue (is_among b.0 xs)
  branch-among [] b h = h
  branch-among (x ∷ xs) b h = elim (or_cases (has_branch b (branches_of rs x)) (has_branch b (flat_map (branches_of rs) xs))
      (sym (list_any-append (is_same_branch b) (branches_of rs x) (flat_map (branches_of rs) xs)) ∙ h)) [
        | inl here ↦ or_left (same_id b.0 x) (is_among b.0 xs) (same_id_from b.0 x (branch-of x b here))
        | inr later ↦ or_right (same_id b.0 x) (is_among b.0 xs) (branch-among xs b later)
      ]

  branches-of_differ : (x : StateId) → Differ is_same_branch (branches_of rs x)
  branches-of_differ x =
      let number : ℕ → StateId × ℕ = λ n. (x, n) in
      differ-map eqb is_same_branch number (λ n m t. (and_parts (same_id x x) (eqb n m) t).1) (range_with_len 0 (length (children rs x)))
      (numbers-differ 0 (length (children rs x)))

  branches-differ : (xs : List StateId) → Differ same_id xs → Differ is_same_branch (flat_map (branches_of rs) xs)
  branches-differ [] d = tt
  branches-differ (x ∷ xs) d =
      differ-append is_same_branch same_branch-itself (branches_of rs x) (flat_map (branches_of rs) xs) (branches-of_differ x) (branches-differ xs d.1)
      (λ b h. false_from_ne_true (has_branch b (flat_map (branches_of rs) xs)) (λ m.
      both_ways (is_among x xs) d.0 (subst (λ z. IsTrue (is_among z xs)) (branch-of x b h) (branch-among xs b m))))

  -- a state has a branch of each number below the number of its children
  branch-here : (x : StateId) (n : ℕ) → n < length (children rs x) → IsTrue (has_branch (x, n) (branches_of rs x))
  branch-here x n lt =
      let number : ℕ → StateId × ℕ = λ m. (x, m) in
      any-map (is_same_branch (x, n)) number (range_with_len 0 (length (children rs x)))
      ∙ go (range_with_len 0 (length (children rs x))) (number-there 0 n (length (children rs x)) (omega arith) (omega arith))
    where
      go : (ns : List ℕ) → IsTrue (list_any (eqb n) ns) → IsTrue (list_any (λ m. is_same_branch (x, n) (x, m)) ns)
      go [] h = h
      go (m ∷ ms) h = elim (or_cases (eqb n m) (list_any (eqb n) ms) h) [
        | inl t ↦ or_left (is_same_branch (x, n) (x, m)) (list_any (λ k. is_same_branch (x, n) (x, k)) ms) (and_from (same_id x x) (eqb n m) (same_id_self x) t)
        | inr l ↦ or_right (is_same_branch (x, n) (x, m)) (list_any (λ k. is_same_branch (x, n) (x, k)) ms) (go ms l)
      ]

  branch-there : (xs : List StateId) (x : StateId) (n : ℕ) → IsTrue (is_among x xs) → n < length (children rs x) →
      IsTrue (has_branch (x, n) (flat_map (branches_of rs) xs))
  branch-there [] x n m lt = m
  branch-there (y ∷ xs) x n m lt =
      list_any-append (is_same_branch (x, n)) (branches_of rs y) (flat_map (branches_of rs) xs)
      ∙ elim (or_cases (same_id x y) (is_among x xs) m) [
        | inl t ↦
            or_left (has_branch (x, n) (branches_of rs y)) (has_branch (x, n) (flat_map (branches_of rs) xs))
            (subst (λ z. IsTrue (has_branch (x, n) (branches_of rs z))) (same_id-true x y t) (branch-here x n lt))
        | inr l ↦ or_right (has_branch (x, n) (branches_of rs y)) (has_branch (x, n) (flat_map (branches_of rs) xs)) (branch-there xs x n l lt)
      ]

-- ===== Fork paths

pub states-differ : (xs : List StateId) → AllDiffer xs → Differ same_id xs
states-differ [] d = tt
states-differ (x ∷ xs) d = (d.0, states-differ xs d.1)

-- what leads somewhere has a number below the number of children
pub leads-within : (rs : List Record) (x p : StateId) (n : ℕ) → IsTrue (leads_to rs x (p, n)) → n < length (children rs p)
leads-within rs x p n leads = go (slice_get (children rs p) n) refl leads
  where
    go : (o : Option StateId) → slice_get (children rs p) n ≡ o → IsTrue (option_map_or (λ c. is_above rs c x) o false) → n < length (children rs p)
    go None e h = not-both true refl (sym h)
    go (Some c) e h = slice_get_within (children rs p) n c e

module _ (rs : List Record) (ks : List StateId) (dag : IsDag rs) (x : StateId) where
  -- a fork path has nothing twice
  pub path-differs : Differ is_same_branch (fork_path rs ks x)
  path-differs =
      differ-filter is_same_branch (leads_to rs x) (branches rs ks)
      (branches-differ rs (filter (is_fork rs) (kept_states rs ks))
      (differ-filter same_id (is_fork rs) (kept_states rs ks) (states-differ (kept_states rs ks) (kept-differ rs ks dag))))

  path-is : (b : StateId × ℕ) → has_branch b (fork_path rs ks x) ≡ (leads_to rs x b && has_branch b (branches rs ks))
  path-is b = any-filter_same (is_same_branch b) (leads_to rs x) (leads_to rs x b) (λ c t. ap (leads_to rs x) (sym (same_branch-true b c t))) (branches rs ks)

  -- it has each branch of a kept fork that leads there
  pub path-has : (p : StateId) (n : ℕ) → IsTrue (is_kept rs ks p) → IsTrue (is_fork rs p) → IsTrue (leads_to rs x (p, n)) →
      IsTrue (has_branch (p, n) (fork_path rs ks x))
  path-has p n kept fork leads =
      path-is (p, n)
      ∙ and_from (leads_to rs x (p, n)) (has_branch (p, n) (branches rs ks)) leads
      (branch-there rs (filter (is_fork rs) (kept_states rs ks)) p n (among-filter (is_fork rs) (kept_states rs ks) p (kept-is_listed rs ks p kept) fork)
      (leads-within rs x p n leads))

  -- and no other
  pub path-parts : (b : StateId × ℕ) → IsTrue (has_branch b (fork_path rs ks x)) → IsTrue (is_kept rs ks b.0) × IsTrue (is_fork rs b.0)
      × IsTrue (leads_to rs x b)
  path-parts b h =
      let parts = and_parts (leads_to rs x b) (has_branch b (branches rs ks)) (sym (path-is b) ∙ h) in
      let among = filtered-passes (is_fork rs) (kept_states rs ks) b.0 (branch-among rs (filter (is_fork rs) (kept_states rs ks)) b parts.1) in
      (listed-is_kept rs ks b.0 among.0, among.1, parts.0)
