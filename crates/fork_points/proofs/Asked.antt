-- What the table answers of a kept state, and what that says of the history.
use Rattle.std.proofs.Common.{◌≡◌, Bool, true, false, ◌&&◌, ◌||◌, not, List, [], ◌∷◌, ◌++◌, length, ◌==◌, map, filter, Some, IsTrue, IsFalse, inl, inr, refl}
use Rattle.std.proofs.Common.{sym, ap, ap₂, subst, ◌∙◌, eqb-true, arith}
use Rattle.std.specs.List.{list_any, list_all}
use Rattle.std.proofs.lemmas.Bool.{cond-true, cond-false, and_parts, and_from, cases_Bool, not_from_false, not-true, false_from_ne_true}
use Rattle.tardis_base.specs.declared.ids.StateId.{StateId}
use Rattle.tardis_base.specs.declared.ids.Slot.{Slot}
use Rattle.tardis_base.specs.declared.records.Record.{Record}
use Rattle.tardis_base.specs.Ids.{is_among}
use Rattle.plain_dag.specs.States.{children, is_known, arrived}
use Rattle.plain_dag.specs.Above.{is_above_all}
use Rattle.plain_dag.specs.Forks.{is_leaf, is_fork_point}
use Rattle.plain_dag.specs.Collection.{is_kept, kept_states, stand_in}
use Rattle.plain_dag.proofs.Ids.{not-both, among-first, among-later}
use Rattle.plain_dag.proofs.States.{child_is_known, any-witness, any-from}
use Rattle.plain_dag.proofs.Leaves.{leaf-is-childless}
use Rattle.plain_dag.proofs.StandIns.{stands-in-well}
use Rattle.state_dag.specs.Table.{Table, id_at, is_slot_above}
use Rattle.state_dag.specs.Stands.{Stands}
use Rattle.state_dag.proofs.Standing.{slot-is_kept, slots-tell}
use Rattle.plain_dag.proofs.Known.{arrived-is_known}
use Rattle.fork_points.proofs.Walks.{filter-behind}

module _ (table : Table) (rs : List Record) (ks : List StateId) (stands : Stands table rs ks) where
  -- a slot is above these exactly where its state is
  slot-above_all : (slot : Slot) (x : StateId) → id_at table slot ≡ Some x → (ss : List Slot) (xs : List StateId) → map (id_at table) ss
      ≡ map (λ y. Some y) xs → list_all (is_slot_above table slot) ss ≡ is_above_all rs x xs
  slot-above_all slot x named [] [] e = refl
  slot-above_all slot x named [] (y ∷ ys) e = absurd (let bad : ⊥ = cc in bad)
  slot-above_all slot x named (s ∷ ss) [] e = absurd (let bad : ⊥ = cc in bad)
  slot-above_all slot x named (s ∷ ss) (y ∷ ys) e =
      let here : id_at table s ≡ Some y = cc in
      let rest : map (id_at table) ss ≡ map (λ z. Some z) ys = cc in
      ap₂ ◌&&◌ (slots-tell table rs ks stands slot s x y named here) (slot-above_all slot x named ss ys rest)

  -- these states are kept
  named-are_kept : (ss : List Slot) (xs : List StateId) → map (id_at table) ss ≡ map (λ y. Some y) xs → IsTrue (list_all (is_kept rs ks) xs)
  named-are_kept [] [] e = refl
  named-are_kept [] (y ∷ ys) e = absurd (let bad : ⊥ = cc in bad)
  named-are_kept (s ∷ ss) [] e = absurd (let bad : ⊥ = cc in bad)
  named-are_kept (s ∷ ss) (y ∷ ys) e =
      let here : id_at table s ≡ Some y = cc in
      let rest : map (id_at table) ss ≡ map (λ z. Some z) ys = cc in
      and_from (is_kept rs ks y) (list_all (is_kept rs ks) ys) (slot-is_kept table rs ks stands s y here) (named-are_kept ss ys rest)

  -- a state is above kept ones exactly where its stand-in is
  stand-in-above_all : (c : StateId) → IsTrue (is_known rs c) → (xs : List StateId) → IsTrue (list_all (is_kept rs ks) xs) →
      is_above_all rs (stand_in rs ks c) xs ≡ is_above_all rs c xs
  stand-in-above_all c known [] kept = refl
  stand-in-above_all c known (y ∷ ys) kept =
      let parts = and_parts (is_kept rs ks y) (list_all (is_kept rs ks) ys) kept in
      ap₂ ◌&&◌ (sym ((stands-in-well rs ks stands.dag stands.shared).tells c y known parts.0)) (stand-in-above_all c known ys parts.1)

  -- so it is with children
  one-above_all : (ss : List Slot) (xs : List StateId) → map (id_at table) ss ≡ map (λ y. Some y) xs → (cs : List Slot) (ds : List StateId) →
      map (id_at table) cs ≡ map (λ d. Some (stand_in rs ks d)) ds →
      ((d : StateId) → IsTrue (is_among d ds) → IsTrue (is_known rs d)) → list_any (λ c. list_all (is_slot_above table c) ss) cs
      ≡ list_any (λ d. is_above_all rs d xs) ds
  one-above_all ss xs are [] [] e known = refl
  one-above_all ss xs are [] (d ∷ ds) e known = absurd (let bad : ⊥ = cc in bad)
  one-above_all ss xs are (c ∷ cs) [] e known = absurd (let bad : ⊥ = cc in bad)
  one-above_all ss xs are (c ∷ cs) (d ∷ ds) e known =
      let here : id_at table c ≡ Some (stand_in rs ks d) = cc in
      let rest : map (id_at table) cs ≡ map (λ z. Some (stand_in rs ks z)) ds = cc in
      let one = slot-above_all c (stand_in rs ks d) here ss xs are ∙ stand-in-above_all d (known d (among-first d ds)) xs (named-are_kept ss xs are) in
      ap₂ ◌||◌ one (one-above_all ss xs are cs ds rest (λ z m. known z (among-later z d ds m)))

  fork-point-told : (slot : Slot) (x : StateId) → id_at table slot ≡ Some x → (ss : List Slot) (xs : List StateId) → map (id_at table) ss
      ≡ map (λ y. Some y) xs → (cs : List Slot) →
      map (id_at table) cs ≡ map (λ d. Some (stand_in rs ks d)) (children rs x) →
      (list_all (is_slot_above table slot) ss && not (list_any (λ c. list_all (is_slot_above table c) ss) cs)) ≡ is_fork_point rs xs x
  fork-point-told slot x named ss xs are cs e =
      ap₂ ◌&&◌ (slot-above_all slot x named ss xs are) (ap not (one-above_all ss xs are cs (children rs x) e (λ d m. child_is_known rs x d m)))

  -- of a state at or above all of these, what is asked of its children tells whether it is a fork point
  pub shared-asked : (slot : Slot) (x : StateId) → id_at table slot ≡ Some x → (ss : List Slot) (xs : List StateId) → map (id_at table) ss
      ≡ map (λ y. Some y) xs → (cs : List Slot) →
      map (id_at table) cs ≡ map (λ d. Some (stand_in rs ks d)) (children rs x) → (below : Bool) →
      below ≡ list_any (λ c. list_all (is_slot_above table c) ss) cs →
      IsTrue (is_above_all rs x xs) → not below ≡ is_fork_point rs xs x
  shared-asked slot x named ss xs are cs e below is_below all =
      ap not is_below ∙ (sym (ap (λ b. b && not (list_any (λ c. list_all (is_slot_above table c) ss) cs)) (slot-above_all slot x named ss xs are ∙ all))
      ∙ fork-point-told slot x named ss xs are cs e)

  -- ===== All of them

  -- what is kept wherever it passes is found among the kept states
  pub among-kept : (p : StateId → Bool) → ((x : StateId) → IsTrue (is_known rs x) → IsTrue (p x) → IsTrue (is_kept rs ks x)) → filter p (kept_states rs ks)
      ≡ filter p (arrived rs)
  among-kept p kept = filter-behind p (λ x. not (is_among x ks)) (arrived rs) (λ x m passes.
      let known = arrived-is_known rs x m in
      (and_parts (is_known rs x) (not (is_among x ks)) (kept x known passes)).1)

  -- a leaf is kept
  pub leaf-is_kept : (x : StateId) → IsTrue (is_known rs x) → IsTrue (is_leaf rs x) → IsTrue (is_kept rs ks x)
  leaf-is_kept x known leaf =
      and_from (is_known rs x) (not (is_among x ks)) known
      (not_from_false (is_among x ks) (false_from_ne_true (is_among x ks) (λ gone.
      not-both false (subst (λ cs. IsTrue (list_any (λ c. true) cs)) (leaf-is-childless rs x leaf) (stands.shared x gone).0) refl)))

  -- a collected state has a child that is at or above all of these where it is itself, so that fork points are kept
  pub fork-point-is_kept : (ss : List Slot) (xs : List StateId) → map (id_at table) ss ≡ map (λ y. Some y) xs → (x : StateId) → IsTrue (is_known rs x) →
      IsTrue (is_fork_point rs xs x) → IsTrue (is_kept rs ks x)
  fork-point-is_kept ss xs are x known fork =
      let is_above_them : StateId → Bool = λ c. is_above_all rs c xs in
      let parts = and_parts (is_above_them x) (not (list_any is_above_them (children rs x))) fork in
      and_from (is_known rs x) (not (is_among x ks)) known
      (not_from_false (is_among x ks) (false_from_ne_true (is_among x ks) (λ gone.
      let some = any-witness (λ c. true) (children rs x) (stands.shared x gone).0 in
      let kept = named-are_kept ss xs are in
      let here = stand-in-above_all x known xs kept in
      let there = stand-in-above_all some.0 (child_is_known rs x some.0 some.1) xs kept in
      let same = ap (λ z. is_above_all rs z xs) ((stands.shared x gone).1 some.0 some.1) in
      let above : IsTrue (is_above_them some.0) = sym there ∙ (same ∙ (here ∙ parts.0)) in
      not-both (list_any is_above_them (children rs x)) (any-from is_above_them (children rs x) some.0 some.1 above)
      (not-true (list_any is_above_them (children rs x)) parts.1))))

-- ===== Leaves

some-last : (xs : List StateId) (y : StateId) → xs ++ y ∷ [] ≡ [] → ⊥
some-last [] y e = cc
some-last (x ∷ xs) y e = cc

-- a state without children is a leaf
childless-is-leaf : (rs : List Record) (x : StateId) → children rs x ≡ [] → IsFalse (list_any (λ r. is_among x r.parents) rs)
childless-is-leaf [] x none = refl
childless-is-leaf (r ∷ rs) x none = elim (cases_Bool (is_among x r.parents)) [
  | inl t ↦ absurd (some-last (children rs x) r.id (sym (cond-true (is_among x r.parents) (children rs x ++ r.id ∷ []) (children rs x) t) ∙ none))
  | inr f ↦ rw f (childless-is-leaf rs x (sym (cond-false (is_among x r.parents) (children rs x ++ r.id ∷ []) (children rs x) f) ∙ none))
]

pub leaf-told : (rs : List Record) (x : StateId) (cs : List StateId) → cs ≡ children rs x → (length cs == 0) ≡ is_leaf rs x
leaf-told rs x [] e = sym (ap not (childless-is-leaf rs x (sym e)))
leaf-told rs x (c ∷ cs) e = false_from_ne_true (length (c ∷ cs) == 0) (λ t. let n = eqb-true (length (c ∷ cs)) 0 t in omega arith)
    ∙ sym (false_from_ne_true (is_leaf rs x) (λ leaf.
    let none : c ∷ cs ≡ [] = e ∙ leaf-is-childless rs x leaf in
    absurd (let bad : ⊥ = cc in bad)))
