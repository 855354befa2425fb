-- Which branches lead to the states of a history with one more, in the table's words.
use Rattle.std.proofs.Common.{◌≡◌, ℕ, ◌+◌, ◌<◌, ◌≤◌, Bool, true, false, not, ◌||◌, ◌&&◌, eqb, leb, List, [], ◌∷◌, length, Option, Some, None, IsTrue, inl}
use Rattle.std.proofs.Common.{inr, refl, sym, ap, ap₂, subst, ◌∙◌, eqb-true, eq-eqb, le-leb, arith, length-append}
use Rattle.std.specs.List.{list_any}
use Rattle.std.specs.Option.{option_map_or}
use Rattle.std.proofs.lemmas.Bool.{and_parts, and_from, and_left, and_right, or_left, or_right, or_from, cases_Bool, both_ways, false_from_ne_true, leb-true}
use Rattle.std.proofs.lemmas.Option.{none-some}
use Rattle.tardis_base.specs.declared.ids.StateId.{StateId}
use Rattle.tardis_base.specs.declared.ids.Slot.{Slot}
use Rattle.tardis_base.specs.declared.records.Record.{Record}
use Rattle.tardis_base.specs.Ids.{same_id, is_among}
use Rattle.fork_path.specs.Pairs.{is_same_pair, has_pair}
use Rattle.plain_dag.specs.States.{is_known, children}
use Rattle.plain_dag.specs.Paths.{is_fork, leads_to}
use Rattle.plain_dag.proofs.Ids.{same_test, or-false, same_id-true, any-agrees}
use Rattle.plain_dag.proofs.Histories.{next-fits, parent-is-known}
use Rattle.plain_dag.proofs.States.{children-before, children-of-parent}
use Rattle.state_dag.specs.Table.{Table, id_at}
use Rattle.state_dag.specs.Stands.{is_taken, Stands}
use Rattle.state_dag.specs.Answers.{MayBeAdded}
use Rattle.state_dag.specs.Grown.{path_at, number_of_children, leads_first, is_first_branch, is_last_branch, is_new_pair}
use Rattle.state_dag.proofs.Standing.{slot-is_kept}
use Rattle.state_dag.proofs.Counting.{any-never}
use Rattle.state_dag.proofs.Branches.{leads-within}
use Rattle.state_dag.proofs.NextState.{leads-old, leads-new}
use Rattle.state_dag.proofs.ParentSlots.{slot_from, same-slot, children-at, path-taken, leads-first-is, any-named}

-- ===== Tests

-- one of these is x, and the rest of the test says nothing of it
any-same : (x : StateId) (b : Bool) (ps : List StateId) → list_any (λ q. same_id x q && b) ps ≡ (is_among x ps && b)
any-same x b [] = refl
any-same x b (p ∷ ps) = ap (λ c. same_id x p && b || c) (any-same x b ps) ∙ drawn (same_id x p) (is_among x ps) b
  where
    drawn : (s m c : Bool) → (s && c || m && c) ≡ ((s || m) && c)
    drawn true true true = refl
    drawn true true false = refl
    drawn true false true = refl
    drawn true false false = refl
    drawn false m c = refl

-- what a test says of each of these stands before it
any-with : (b : Bool) (p : StateId → Bool) (xs : List StateId) → list_any (λ x. b && p x) xs ≡ (b && list_any p xs)
any-with true p xs = refl
any-with false p xs = any-never xs

-- a pair is none of a slot's that isn't its own
other-pair : (pair : ℕ × ℕ) (s : Slot) (n : ℕ) → (record { 0 = pair.0 } ≡ s → ⊥) → is_same_pair pair (s.0, n) ≡ false
other-pair pair s n other = false_from_ne_true (is_same_pair pair (s.0, n)) (λ t.
    other (slot_from (record { 0 = pair.0 }) s (eqb-true pair.0 s.0 (and_parts (eqb pair.0 s.0) (eqb pair.1 n) t).0)))

module _ (table : Table) (rs : List Record) (ks : List StateId) (r : Record) (parents : List Slot) (stands : Stands table rs ks)
    (may : MayBeAdded table rs ks r parents) where
  -- ===== Old states

  -- no pair of a slot that names nothing is a first branch
  nothing-first : (t : Slot) (pair : ℕ × ℕ) → ◌≡◌ {A = Option StateId} (id_at table (record { 0 = pair.0 })) None → is_first_branch table parents t pair ≡ false
  nothing-first t pair none =
      any-named table rs ks stands (λ s. is_same_pair pair (s.0, 0) && leads_first table t s) (λ p. false) parents r.parents may.slots
      (λ s p here m. and_left (is_same_pair pair (s.0, 0)) (leads_first table t s)
      (other-pair pair s 0 (λ e. none-some p (sym none ∙ (ap (id_at table) e ∙ here)))))
      ∙ any-never r.parents

  -- first branches in the history's words
  pub first-is : (t : Slot) (y p : StateId) (pair : ℕ × ℕ) → id_at table t ≡ Some y → id_at table (record { 0 = pair.0 }) ≡ Some p →
      is_first_branch table parents t pair ≡ (is_among p r.parents && (eqb pair.1 0 && (eqb (length (children rs p)) 1 && leads_to rs y (p, 0))))
  first-is t y p pair named is =
      any-named table rs ks stands (λ s. is_same_pair pair (s.0, 0) && leads_first table t s) (λ q. same_id p q && rest) parents r.parents may.slots
      (λ s q here m. at s q here m)
      ∙ any-same p rest r.parents
    where
      rest : Bool
      rest = eqb pair.1 0 && (eqb (length (children rs p)) 1 && leads_to rs y (p, 0))

      at : (s : Slot) (q : StateId) → id_at table s ≡ Some q → IsTrue (is_among q r.parents) → (is_same_pair pair (s.0, 0) && leads_first table t s)
          ≡ (same_id p q && rest)
      at s q here m =
          ap (λ b. (b && eqb pair.1 0) && leads_first table t s) (same-slot table rs ks stands (record { 0 = pair.0 }) s p q is here)
          ∙ elim (cases_Bool (same_id p q)) [
            | inl u ↦
                let e : p ≡ q = same_id-true p q u in
                let leads : leads_first table t s ≡ (eqb (length (children rs p)) 1 && leads_to rs y (p, 0)) =
                leads-first-is table rs ks stands s t p y (here ∙ ap (λ z. Some z) (sym e)) named in
                ap (λ b. (b && eqb pair.1 0) && leads_first table t s) u ∙ (ap (λ b. eqb pair.1 0 && b) leads ∙ sym (ap (λ b. b && rest) u))
            | inr f ↦ ap (λ b. (b && eqb pair.1 0) && leads_first table t s) f ∙ sym (ap (λ b. b && rest) f)
          ]

  -- a fork with the new state, of old states: a parent with a child, or a fork before
  fork-next : (p : StateId) (y : StateId) (n : ℕ) →
      (is_fork (r ∷ rs) p && leads_to rs y (p, n)) ≡ (is_fork rs p && leads_to rs y (p, n) ||
      (is_among p r.parents && (eqb n 0 && (eqb (length (children rs p)) 1 && leads_to rs y (p, 0)))))
  fork-next p y n = elim (cases_Bool (is_among p r.parents)) [
    | inl t ↦ elim (cases_Bool (leads_to rs y (p, n))) [
      | inl l ↦
          let within = leads-within rs y p n l in
          let more : length (children (r ∷ rs) p) ≡ length (children rs p) + 1 = ap length (children-of-parent rs r p t)
          ∙ length-append (children rs p) (r.id ∷ []) in
          and_from (is_fork (r ∷ rs) p) (leads_to rs y (p, n)) (le-leb 2 (length (children (r ∷ rs) p)) (omega arith)) l ∙ sym (either t l within)
      | inr f ↦
          and_right (is_fork (r ∷ rs) p) (leads_to rs y (p, n)) f
          ∙ sym (or_from (is_fork rs p && leads_to rs y (p, n)) (is_among p r.parents && first) (and_right (is_fork rs p) (leads_to rs y (p, n)) f)
          (and_right (is_among p r.parents) first (no-first f)))
    ]
    | inr f ↦
        ap (λ cs. leb 2 (length cs) && leads_to rs y (p, n)) (children-before rs r p f)
        ∙ (sym (or-false (is_fork rs p && leads_to rs y (p, n))) ∙ sym (ap (λ b. is_fork rs p && leads_to rs y (p, n) || (b && first)) f))
  ]
    where
      first : Bool
      first = eqb n 0 && (eqb (length (children rs p)) 1 && leads_to rs y (p, 0))

      no-first : leads_to rs y (p, n) ≡ false → first ≡ false
      no-first f = false_from_ne_true first (λ t.
          let a = and_parts (eqb n 0) (eqb (length (children rs p)) 1 && leads_to rs y (p, 0)) t in
          let b = and_parts (eqb (length (children rs p)) 1) (leads_to rs y (p, 0)) a.1 in
          both_ways (leads_to rs y (p, n)) f (subst (λ m. leads_to rs y (p, m) ≡ true) (sym (eqb-true n 0 a.0)) b.1))

      either : is_among p r.parents ≡ true → leads_to rs y (p, n) ≡ true → n < length (children rs p) →
          (is_fork rs p && leads_to rs y (p, n) || (is_among p r.parents && first)) ≡ true
      either t l within = elim (cases_Bool (is_fork rs p)) [
        | inl u ↦ or_left (is_fork rs p && leads_to rs y (p, n)) (is_among p r.parents && first) (and_from (is_fork rs p) (leads_to rs y (p, n)) u l)
        | inr f ↦
            let few : 2 ≤ length (children rs p) → ⊥ = λ h. both_ways (is_fork rs p) f (le-leb 2 (length (children rs p)) h) in
            let zero : n ≡ 0 = omega arith in
            or_right (is_fork rs p && leads_to rs y (p, n)) (is_among p r.parents && first)
            (and_from (is_among p r.parents) first t (and_from (eqb n 0) (eqb (length (children rs p)) 1 && leads_to rs y (p, 0)) (eq-eqb n 0 zero)
            (and_from (eqb (length (children rs p)) 1) (leads_to rs y (p, 0)) (eq-eqb (length (children rs p)) 1 (omega arith))
            (subst (λ m. leads_to rs y (p, m) ≡ true) zero l))))
      ]

  -- to an old state those lead that did, and the first branches
  pub taken-old : (t : Slot) (y : StateId) → id_at table t ≡ Some y → (pair : ℕ × ℕ) →
      is_taken table (r ∷ rs) y pair ≡ (is_taken table rs y pair || is_first_branch table parents t pair)
  taken-old t y named pair = go (id_at table (record { 0 = pair.0 })) refl
    where
      known : IsTrue (is_known rs y)
      known = (and_parts (is_known rs y) (not (is_among y ks)) (slot-is_kept table rs ks stands t y named)).0

      go : (o : Option StateId) → id_at table (record { 0 = pair.0 }) ≡ o → is_taken table (r ∷ rs) y pair
          ≡ (is_taken table rs y pair || is_first_branch table parents t pair)
      go None is =
          ap (λ o. option_map_or (λ p. is_fork (r ∷ rs) p && leads_to (r ∷ rs) y (p, pair.1)) o false) is
          ∙ sym (or_from (is_taken table rs y pair) (is_first_branch table parents t pair)
          (ap (λ o. option_map_or (λ p. is_fork rs p && leads_to rs y (p, pair.1)) o false) is) (nothing-first t pair is))
      go (Some p) is =
          ap (λ o. option_map_or (λ q. is_fork (r ∷ rs) q && leads_to (r ∷ rs) y (q, pair.1)) o false) is
          ∙ (ap (λ b. is_fork (r ∷ rs) p && b) (leads-old rs r stands.dag may.next y known p pair.1)
          ∙ (fork-next p y pair.1
          ∙ sym (ap₂ (λ a b. a || b) (ap (λ o. option_map_or (λ q. is_fork rs q && leads_to rs y (q, pair.1)) o false) is) (first-is t y p pair named is))))

  -- ===== The new state

  nothing-last : (pair : ℕ × ℕ) → ◌≡◌ {A = Option StateId} (id_at table (record { 0 = pair.0 })) None → is_last_branch table parents pair ≡ false
  nothing-last pair none =
      any-named table rs ks stands (λ s. is_same_pair pair (s.0, number_of_children table s) && leb 1 (number_of_children table s))
      (λ p. false) parents r.parents may.slots
      (λ s p here m. and_left (is_same_pair pair (s.0, number_of_children table s)) (leb 1 (number_of_children table s))
      (other-pair pair s (number_of_children table s) (λ e. none-some p (sym none ∙ (ap (id_at table) e ∙ here)))))
      ∙ any-never r.parents

  last-is : (p : StateId) (pair : ℕ × ℕ) → id_at table (record { 0 = pair.0 }) ≡ Some p →
      is_last_branch table parents pair ≡ (is_among p r.parents && (eqb pair.1 (length (children rs p)) && leb 1 (length (children rs p))))
  last-is p pair is =
      any-named table rs ks stands (λ s. is_same_pair pair (s.0, number_of_children table s) && leb 1 (number_of_children table s))
      (λ q. same_id p q && rest) parents r.parents may.slots (λ s q here m. at s q here)
      ∙ any-same p rest r.parents
    where
      rest : Bool
      rest = eqb pair.1 (length (children rs p)) && leb 1 (length (children rs p))

      at : (s : Slot) (q : StateId) → id_at table s ≡ Some q → (is_same_pair pair (s.0, number_of_children table s) && leb 1 (number_of_children table s))
          ≡ (same_id p q && rest)
      at s q here =
          ap (λ n. is_same_pair pair (s.0, n) && leb 1 n) (children-at table rs ks stands s q here)
          ∙ (ap (λ b. (b && eqb pair.1 (length (children rs q))) && leb 1 (length (children rs q)))
          (same-slot table rs ks stands (record { 0 = pair.0 }) s p q is here)
          ∙ elim (cases_Bool (same_id p q)) [
            | inl u ↦
                ap (λ b. (b && eqb pair.1 (length (children rs q))) && leb 1 (length (children rs q))) u
                ∙ (ap (λ z. eqb pair.1 (length (children rs z)) && leb 1 (length (children rs z))) (sym (same_id-true p q u)) ∙ sym (ap (λ b. b && rest) u))
            | inr f ↦ ap (λ b. (b && eqb pair.1 (length (children rs q))) && leb 1 (length (children rs q))) f ∙ sym (ap (λ b. b && rest) f)
          ])

  -- the branches that lead to the parents afterwards
  to-parents : (pair : ℕ × ℕ) → list_any (λ s. has_pair pair (path_at table s) || is_first_branch table parents s pair) parents
      ≡ list_any (λ q. is_taken table (r ∷ rs) q pair) r.parents
  to-parents pair =
      any-named table rs ks stands (λ s. has_pair pair (path_at table s) || is_first_branch table parents s pair) (λ q. is_taken table (r ∷ rs) q pair)
      parents r.parents may.slots
      (λ s q here m. ap (λ b. b || is_first_branch table parents s pair) (path-taken table rs ks stands s q here pair) ∙ sym (taken-old s q here pair))

  mixed : (f a m k g : Bool) → (m ≡ true → f ≡ g) → (f && (a || (m && k))) ≡ ((f && a) || (m && (k && g)))
  mixed true a true true g same = ap (λ b. a || b) (same refl)
  mixed true a true false g same = refl
  mixed true a false k g same = refl
  mixed false a true true g same = same refl
  mixed false a true false g same = refl
  mixed false a false k g same = refl

  fork-of_parent : (p : StateId) → is_among p r.parents ≡ true → is_fork (r ∷ rs) p ≡ leb 1 (length (children rs p))
  fork-of_parent p m =
      let more : length (children (r ∷ rs) p) ≡ length (children rs p) + 1 = ap length (children-of-parent rs r p m)
      ∙ length-append (children rs p) (r.id ∷ []) in
      same_test (is_fork (r ∷ rs) p) (leb 1 (length (children rs p)))
      (λ t. let le = leb-true 2 (length (children (r ∷ rs) p)) t in le-leb 1 (length (children rs p)) (omega arith))
      (λ t. let le = leb-true 1 (length (children rs p)) t in le-leb 2 (length (children (r ∷ rs) p)) (omega arith))

  -- to the new state its pairs lead
  pub taken-new : (pair : ℕ × ℕ) → is_taken table (r ∷ rs) r.id pair ≡ is_new_pair table parents pair
  taken-new pair = go (id_at table (record { 0 = pair.0 })) refl
    where
      to-old : (p : StateId) → list_any (λ q. leads_to (r ∷ rs) q (p, pair.1)) r.parents ≡ list_any (λ q. leads_to rs q (p, pair.1)) r.parents
      to-old p =
          any-agrees (λ q. leads_to (r ∷ rs) q (p, pair.1)) (λ q. leads_to rs q (p, pair.1)) r.parents
          (λ q m. leads-old rs r stands.dag may.next q (parent-is-known rs r q (next-fits rs r may.next) m) p pair.1)

      go : (o : Option StateId) → id_at table (record { 0 = pair.0 }) ≡ o → is_taken table (r ∷ rs) r.id pair ≡ is_new_pair table parents pair
      go None is =
          ap (λ o. option_map_or (λ p. is_fork (r ∷ rs) p && leads_to (r ∷ rs) r.id (p, pair.1)) o false) is
          ∙ sym (or_from (list_any (λ s. has_pair pair (path_at table s) || is_first_branch table parents s pair) parents) (is_last_branch table parents pair)
          (to-parents pair ∙ (ap (λ o. list_any (λ q. option_map_or (λ p. is_fork (r ∷ rs) p && leads_to (r ∷ rs) q (p, pair.1)) o false) r.parents) is
          ∙ any-never r.parents))
          (nothing-last pair is))
      go (Some p) is =
          let older = list_any (λ q. leads_to rs q (p, pair.1)) r.parents in
          ap (λ o. option_map_or (λ q. is_fork (r ∷ rs) q && leads_to (r ∷ rs) r.id (q, pair.1)) o false) is
          ∙ (ap (λ b. is_fork (r ∷ rs) p && b) (leads-new rs r stands.dag may.next p pair.1)
          ∙ (mixed (is_fork (r ∷ rs) p) older (is_among p r.parents) (eqb pair.1 (length (children rs p))) (leb 1 (length (children rs p))) (fork-of_parent p)
          ∙ sym (ap₂ (λ a b. a || b)
          (to-parents pair ∙ (ap (λ o. list_any (λ q. option_map_or (λ z. is_fork (r ∷ rs) z && leads_to (r ∷ rs) q (z, pair.1)) o false) r.parents) is
          ∙ (any-with (is_fork (r ∷ rs) p) (λ q. leads_to (r ∷ rs) q (p, pair.1)) r.parents ∙ ap (λ b. is_fork (r ∷ rs) p && b) (to-old p))))
          (last-is p pair is))))
