-- Fork points among the states that are shared last, and leaves.
use Rattle.std.proofs.Common.{◌≡◌, ◌≤◌, Bool, true, false, ◌||◌, not, ◌==◌, List, [], ◌∷◌, length, map, filter, Some, IsTrue, IsFalse, inl, inr}
use Rattle.std.proofs.Common.{refl, sym, ap, subst, ◌∙◌, eqb-true, arith}
use Rattle.std.specs.List.{list_any}
use Rattle.std.proofs.lemmas.Bool.{and_parts, and_from, or_left, or_right, cases_Bool, both_ways, not_from_false, not-true, false_from_ne_true}
use Rattle.std.proofs.lemmas.List.Elements.{filter_agree}
use Rattle.tardis_base.specs.declared.ids.StateId.{StateId}
use Rattle.tardis_base.specs.declared.ids.Slot.{Slot}
use Rattle.tardis_base.specs.declared.records.Record.{Record}
use Rattle.tardis_base.specs.Ids.{same_id, is_among}
use Rattle.plain_dag.specs.States.{children, arrived}
use Rattle.plain_dag.specs.Above.{is_above, is_above_all}
use Rattle.plain_dag.specs.Forks.{is_leaf, leaves, is_fork_point, fork_points}
use Rattle.plain_dag.specs.Dag.{IsDag}
use Rattle.plain_dag.specs.Collection.{kept_states}
use Rattle.plain_dag.proofs.States.{proper_goes_by_child, same_id_from}
use Rattle.plain_dag.proofs.Ids.{any-from, any-false-at}
use Rattle.state_dag.specs.Table.{Table, id_at}
use Rattle.state_dag.specs.Stands.{Stands}
use Rattle.state_dag.proofs.Known.{limits-parts}
use Rattle.branch_region.specs.Regions.{is_above_part, is_last_shared, shared_states}
use Rattle.fork_points.proofs.Walks.{filter-behind}
use Rattle.fork_points.proofs.Asked.{among-kept, fork-point-is_kept, leaf-is_kept, leaf-told}

few-pass : (p : StateId → Bool) (xs : List StateId) → length (filter p xs) ≤ length xs
few-pass p [] = omega arith
few-pass p (x ∷ xs) =
    let rest = few-pass p xs in
    elim (cases_Bool (p x)) [ inl t ↦ rw t (omega arith) | inr n ↦ rw n (omega arith) ]

-- a fork point of some states is one that they share last
fork-is_last : (rs : List Record) → IsDag rs → (y : StateId) (ys : List StateId) (x : StateId) → IsTrue (is_fork_point rs (y ∷ ys) x) →
    IsTrue (is_last_shared rs (y ∷ ys) x)
fork-is_last rs dag y ys x fork =
    let xs = y ∷ ys in
    let below : StateId → Bool = λ c. is_above_all rs c xs in
    let parts = and_parts (is_above_all rs x xs) (not (list_any below (children rs x))) fork in
    let above_y = (and_parts (is_above rs x y) (is_above_all rs x ys) parts.0).0 in
    let none = not-true (list_any below (children rs x)) parts.1 in
    and_from (is_above_all rs x xs) (is_among x xs || list_any (λ c. is_above_part rs c xs) (children rs x)) parts.0
    (elim (cases_Bool (same_id x y)) [
      | inl t ↦ or_left (is_among x xs) (list_any (λ c. is_above_part rs c xs) (children rs x)) (or_left (same_id x y) (is_among x ys) t)
      | inr n ↦
          let c = proper_goes_by_child rs dag x y above_y (λ e. both_ways (same_id x y) n (same_id_from x y e)) in
          let some = or_left (is_above rs c.0 y) (list_any (is_above rs c.0) ys) c.2 in
          let part = and_from (list_any (is_above rs c.0) xs) (not (is_above_all rs c.0 xs)) some
          (not_from_false (is_above_all rs c.0 xs) (any-false-at below (children rs x) c.0 none c.1)) in
          or_right (is_among x xs) (list_any (λ c. is_above_part rs c xs) (children rs x)) (any-from (λ c. is_above_part rs c xs) (children rs x) c.0 c.1 part)
    ])

module _ (table : Table) (rs : List Record) (ks : List StateId) (stands : Stands table rs ks) where
  few-kept : (p : StateId → Bool) → length (filter p (kept_states rs ks)) ≤ 65000
  few-kept p =
      let few = few-pass p (kept_states rs ks) in
      let within = stands.within in
      let most = (limits-parts table.limits stands.valid).kept in
      omega arith

  -- the fork points of some states are those of the states that they share last
  pub forks-are_shared : (ss : List Slot) (y : StateId) (ys : List StateId) → map (id_at table) ss ≡ map (λ z. Some z) (y ∷ ys) →
      filter (is_fork_point rs (y ∷ ys)) (shared_states rs ks (y ∷ ys)) ≡ fork_points rs (y ∷ ys)
  forks-are_shared ss y ys are =
      filter-behind (is_fork_point rs (y ∷ ys)) (is_last_shared rs (y ∷ ys)) (kept_states rs ks) (λ x m fork. fork-is_last rs stands.dag y ys x fork)
      ∙ among-kept table rs ks stands (is_fork_point rs (y ∷ ys)) (fork-point-is_kept table rs ks stands ss (y ∷ ys) are)

  pub forks-of_some : (ss : List Slot) (xs : List StateId) → IsFalse (length ss == 0) → map (id_at table) ss ≡ map (λ z. Some z) xs →
      filter (is_fork_point rs xs) (shared_states rs ks xs) ≡ fork_points rs xs
  forks-of_some [] [] some are = absurd (both_ways true some refl)
  forks-of_some (s ∷ ss) [] some are = absurd (let bad : ⊥ = cc in bad)
  forks-of_some ss (y ∷ ys) some are = forks-are_shared ss y ys are

  pub none-named : (ss : List Slot) (xs : List StateId) → IsTrue (length ss == 0) → map (id_at table) ss ≡ map (λ z. Some z) xs → xs ≡ []
  none-named ss [] none are = refl
  none-named [] (y ∷ ys) none are = absurd (let bad : ⊥ = cc in bad)
  none-named (s ∷ ss) (y ∷ ys) none are = absurd (let n = eqb-true (length (s ∷ ss)) 0 none in omega arith)

  pub few-forks : (ss : List Slot) (xs : List StateId) → map (id_at table) ss ≡ map (λ z. Some z) xs → length (fork_points rs xs) ≤ 65000
  few-forks ss xs are = subst (λ zs. length zs ≤ 65000) (among-kept table rs ks stands (is_fork_point rs xs)
      (fork-point-is_kept table rs ks stands ss xs are)) (few-kept (is_fork_point rs xs))

  pub few-leaves : length (leaves rs) ≤ 65000
  few-leaves = subst (λ zs. length zs ≤ 65000) (among-kept table rs ks stands (is_leaf rs) (leaf-is_kept table rs ks stands)) (few-kept (is_leaf rs))

-- those of no states are the leaves
pub forks-of_none : (rs : List Record) → leaves rs ≡ fork_points rs []
forks-of_none rs = filter_agree (is_leaf rs) (is_fork_point rs []) (λ x. go x (children rs x) refl) (arrived rs)
  where
    go : (x : StateId) (cs : List StateId) → cs ≡ children rs x → is_leaf rs x ≡ is_fork_point rs [] x
    go x [] e = sym (leaf-told rs x [] e) ∙ ap (λ cs. not (list_any (λ c. is_above_all rs c []) cs)) e
    go x (c ∷ cs) e =
        let some : (length (c ∷ cs) == 0) ≡ false = false_from_ne_true (length (c ∷ cs) == 0) (λ t. let n = eqb-true (length (c ∷ cs)) 0 t in omega arith) in
        sym (leaf-told rs x (c ∷ cs) e) ∙ (some ∙ ap (λ cs. not (list_any (λ c. is_above_all rs c []) cs)) e)
