-- The numbers of a table that has grown.
use Rattle.std.proofs.Common.{◌≡◌, ℕ, zero, suc, ◌+◌, ◌-◌, ◌<◌, ◌≤◌, true, ◌||◌, ◌&&◌, eqb, List, [], ◌∷◌, length, map, slice_get, slice_set, IsTrue, IsFalse}
use Rattle.std.proofs.Common.{inl, inr, refl, sym, ap, ap₂, subst, ◌∙◌, eqb-true, eq-eqb, arith, length-append}
use Rattle.std.specs.Prelude.{unwrap_or, nat_le}
use Rattle.std.specs.List.{list_any, range_with_len}
use Rattle.std.proofs.lemmas.Bool.{and_parts, or_cases, cases_Bool, false_from_ne_true, not_from_false, leb-true}
use Rattle.tardis_base.specs.declared.ids.StateId.{StateId}
use Rattle.tardis_base.specs.declared.records.Record.{Record}
use Rattle.tardis_base.specs.Ids.{root, same_id, is_among}
use Rattle.tardis_base.specs.Valid.{is_u16, is_u32, is_id}
use Rattle.plain_dag.specs.States.{children, count_of_site}
use Rattle.plain_dag.specs.Forks.{is_leaf}
use Rattle.plain_dag.proofs.Ids.{same_test, not-both}
use Rattle.plain_dag.proofs.Leaves.{leaf-is-childless}
use Rattle.plain_dag.proofs.States.{children-of-parent, children-before}
use Rattle.state_dag.proofs.Known.{count-newest, count-other}

-- ===== Counts

-- a new state's site is numbered from 1
pub new-site : (r : Record) → IsTrue (is_id r.id) → IsFalse (same_id r.id root) → 1 ≤ r.id.site
new-site r id other =
    let numbers = nat_le 1 r.id.site && nat_le 1 r.id.sequence in
    elim (or_cases (same_id r.id root) numbers (and_parts (is_u16 r.id.site && is_u32 r.id.sequence) (same_id r.id root || numbers) id).1) [
      | inl t ↦ not-both (same_id r.id root) t other
      | inr m ↦ leb-true 1 r.id.site (and_parts (nat_le 1 r.id.site) (nat_le 1 r.id.sequence) m).0
    ]

module _ (f g : ℕ → ℕ) where
  -- where two tables of numbers differ in none of these places they are one
  alike : (a n : ℕ) → ((m : ℕ) → a ≤ m → g m ≡ f m) → map f (range_with_len a n) ≡ map g (range_with_len a n)
  alike a zero same = refl
  alike a (suc n) same = ap₂ (λ (i : ℕ) (is : List ℕ). i ∷ is) (sym (same a (omega arith))) (alike (a + 1) n (λ m le. same m (omega arith)))

  -- where they differ by one in one place, it is set to one more
  set-one : (a n k : ℕ) → k < n → g (a + k) ≡ f (a + k) + 1 → ((m : ℕ) → (m ≡ a + k → ⊥) → g m ≡ f m) →
      slice_set (map f (range_with_len a n)) k (unwrap_or (slice_get (map f (range_with_len a n)) k) 0 + 1) ≡ map g (range_with_len a n)
  set-one a zero k lt more same = absurd (omega arith)
  set-one a (suc n) zero lt more same =
      let here : a + zero ≡ a = omega arith in
      ap₂ (λ (i : ℕ) (is : List ℕ). i ∷ is) (sym (subst (λ m. g m ≡ f m + 1) here more)) (alike (a + 1) n (λ m le. same m (λ e. omega arith)))
  set-one a (suc n) (suc k) lt more same =
      let place : a + suc k ≡ (a + 1) + k = omega arith in
      ap₂ (λ (i : ℕ) (is : List ℕ). i ∷ is) (sym (same a (λ e. omega arith)))
      (set-one (a + 1) n k (omega arith) (subst (λ m. g m ≡ f m + 1) place more) (λ m other. same m (λ e. other (e ∙ place))))

-- the count of the new state's site is one more
pub counts-next : (rs : List Record) (r : Record) (sites : ℕ) (counts : List ℕ) → 1 ≤ r.id.site → r.id.site ≤ sites →
    counts ≡ map (count_of_site rs) (range_with_len 1 sites) →
    slice_set counts (r.id.site - 1) (unwrap_or (slice_get counts (r.id.site - 1)) 0 + 1) ≡ map (count_of_site (r ∷ rs)) (range_with_len 1 sites)
counts-next rs r sites counts some within is =
    let place : 1 + (r.id.site - 1) ≡ r.id.site = omega arith in
    subst (λ ns. slice_set ns (r.id.site - 1) (unwrap_or (slice_get ns (r.id.site - 1)) 0 + 1) ≡ map (count_of_site (r ∷ rs)) (range_with_len 1 sites)) (sym is)
    (set-one (count_of_site rs) (count_of_site (r ∷ rs)) 1 sites (r.id.site - 1) (omega arith)
    (count-newest rs r (1 + (r.id.site - 1)) (sym place))
    (λ m other. count-other rs r m (false_from_ne_true (eqb r.id.site m) (λ t. other (sym (eqb-true r.id.site m t) ∙ sym place)))))

-- ===== Leaves

-- a state that is a parent has a child
has-child : (rs : List Record) (x : StateId) → IsTrue (list_any (λ r. is_among x r.parents) rs) → 1 ≤ length (children rs x)
has-child [] x m = not-both true refl (sym m)
has-child (r ∷ rs) x m = elim (cases_Bool (is_among x r.parents)) [
  | inl t ↦
      let more : length (children (r ∷ rs) x) ≡ length (children rs x) + 1 = ap length (children-of-parent rs r x t)
      ∙ length-append (children rs x) (r.id ∷ []) in
      omega arith
  | inr f ↦ elim (or_cases (is_among x r.parents) (list_any (λ q. is_among x q.parents) rs) m) [
    | inl t ↦ not-both (is_among x r.parents) t f
    | inr older ↦ subst (λ cs. 1 ≤ length cs) (sym (children-before rs r x f)) (has-child rs x older)
  ]
]

-- the states without children are the leaves
pub childless-is_leaf : (rs : List Record) (x : StateId) → eqb (length (children rs x)) 0 ≡ is_leaf rs x
childless-is_leaf rs x = same_test (eqb (length (children rs x)) 0) (is_leaf rs x) forth back
  where
    forth : IsTrue (eqb (length (children rs x)) 0) → IsTrue (is_leaf rs x)
    forth t = not_from_false (list_any (λ r. is_among x r.parents) rs) (false_from_ne_true (list_any (λ r. is_among x r.parents) rs) (λ m.
        let some = has-child rs x m in
        let none = eqb-true (length (children rs x)) 0 t in
        omega arith))

    back : IsTrue (is_leaf rs x) → IsTrue (eqb (length (children rs x)) 0)
    back leaf = eq-eqb (length (children rs x)) 0 (ap length (leaf-is-childless rs x leaf))
