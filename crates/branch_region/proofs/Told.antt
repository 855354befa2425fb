-- What is told of states by their slots.
use Rattle.std.proofs.Common.{◌≡◌, false, ◌&&◌, ◌||◌, not, eqb, List, [], ◌∷◌, map, Some, IsTrue, IsFalse, inl, inr, refl, sym, ap₂, subst, ◌∙◌}
use Rattle.std.specs.List.{list_any}
use Rattle.std.proofs.lemmas.Bool.{and_left, and_from, and_parts, or_left, not-true}
use Rattle.tardis_base.specs.declared.ids.StateId.{StateId}
use Rattle.tardis_base.specs.declared.ids.Slot.{Slot}
use Rattle.tardis_base.specs.declared.records.Record.{Record}
use Rattle.tardis_base.specs.Ids.{is_among}
use Rattle.plain_dag.specs.States.{children, is_known}
use Rattle.plain_dag.specs.Above.{is_above, is_above_all}
use Rattle.plain_dag.specs.Collection.{is_kept, stand_in}
use Rattle.plain_dag.specs.Laws.{StandsInWell}
use Rattle.plain_dag.proofs.States.{same_id_turns, not-both, among-first, among-later, among-cases, child_is_known}
use Rattle.plain_dag.proofs.Ids.{any-agrees, all-agrees}
use Rattle.plain_dag.proofs.StandIns.{stands-in-well}
use Rattle.state_dag.specs.Table.{Table, id_at, is_slot_above}
use Rattle.state_dag.specs.Stands.{Stands}
use Rattle.state_dag.proofs.Standing.{slot-is_kept, slots-tell}
use Rattle.state_dag.proofs.ParentSlots.{same-slot}
use Rattle.branch_region.specs.Regions.{is_above_part, is_last_shared}
use Rattle.branch_region.specs.Slots.{is_slot_above_all, is_slot_above_part}

-- these slots name these states
abbrev pub Named : Table → List Slot → List StateId → Type 0
Named table ss xs = map (id_at table) ss ≡ map (λ x. Some x) xs

module _ (table : Table) (rs : List Record) (ks : List StateId) (stands : Stands table rs ks) where
  pub well : StandsInWell rs ks
  well = stands-in-well rs ks stands.dag stands.shared

  -- they are kept
  pub named-are_kept : (ss : List Slot) (xs : List StateId) → Named table ss xs → (x : StateId) → IsTrue (is_among x xs) → IsTrue (is_kept rs ks x)
  named-are_kept ss [] are x m = not-both false m refl
  named-are_kept [] (y ∷ ys) are x m = absurd (let bad : ⊥ = cc in bad)
  named-are_kept (s ∷ ss) (y ∷ ys) are x m =
      let here : id_at table s ≡ Some y = cc in
      let rest : Named table ss ys = cc in
      elim (among-cases x y ys m) [
        | inl e ↦ subst (λ z. IsTrue (is_kept rs ks z)) (sym e) (slot-is_kept table rs ks stands s y here)
        | inr later ↦ named-are_kept ss ys rest x later
      ]

  module _ (slot : Slot) (x : StateId) (named : id_at table slot ≡ Some x) where
    any-told : (ss : List Slot) (xs : List StateId) → Named table ss xs → list_any (is_slot_above table slot) ss ≡ list_any (is_above rs x) xs
    any-told [] [] are = refl
    any-told [] (y ∷ ys) are = absurd (let bad : ⊥ = cc in bad)
    any-told (s ∷ ss) [] are = absurd (let bad : ⊥ = cc in bad)
    any-told (s ∷ ss) (y ∷ ys) are =
        let here : id_at table s ≡ Some y = cc in
        let rest : Named table ss ys = cc in
        ap₂ ◌||◌ (slots-tell table rs ks stands slot s x y named here) (any-told ss ys rest)

    pub all-told : (ss : List Slot) (xs : List StateId) → Named table ss xs → is_slot_above_all table slot ss ≡ is_above_all rs x xs
    all-told [] [] are = refl
    all-told [] (y ∷ ys) are = absurd (let bad : ⊥ = cc in bad)
    all-told (s ∷ ss) [] are = absurd (let bad : ⊥ = cc in bad)
    all-told (s ∷ ss) (y ∷ ys) are =
        let here : id_at table s ≡ Some y = cc in
        let rest : Named table ss ys = cc in
        ap₂ ◌&&◌ (slots-tell table rs ks stands slot s x y named here) (all-told ss ys rest)

    pub part-told : (ss : List Slot) (xs : List StateId) → Named table ss xs → is_slot_above_part table slot ss ≡ is_above_part rs x xs
    part-told ss xs are = ap₂ (λ a b. a && not b) (any-told ss xs are) (all-told ss xs are)

    pub one-told : (ss : List Slot) (xs : List StateId) → Named table ss xs → list_any (λ s. eqb s.0 slot.0) ss ≡ is_among x xs
    one-told [] [] are = refl
    one-told [] (y ∷ ys) are = absurd (let bad : ⊥ = cc in bad)
    one-told (s ∷ ss) [] are = absurd (let bad : ⊥ = cc in bad)
    one-told (s ∷ ss) (y ∷ ys) are =
        let here : id_at table s ≡ Some y = cc in
        let rest : Named table ss ys = cc in
        ap₂ ◌||◌ (same-slot table rs ks stands s slot y x here named ∙ same_id_turns y x) (one-told ss ys rest)

  module _ (xs : List StateId) (kept : (x : StateId) → IsTrue (is_among x xs) → IsTrue (is_kept rs ks x)) where
    -- a state is above a part of kept states exactly where its stand-in is
    pub stand-in-part : (c : StateId) → IsTrue (is_known rs c) → is_above_part rs (stand_in rs ks c) xs ≡ is_above_part rs c xs
    stand-in-part c known = ap₂ (λ a b. a && not b)
        (any-agrees (is_above rs (stand_in rs ks c)) (is_above rs c) xs (λ x m. sym (well.tells c x known (kept x m))))
        (all-agrees (is_above rs (stand_in rs ks c)) (is_above rs c) xs (λ x m. sym (well.tells c x known (kept x m))))

    children-told : (ss : List Slot) → Named table ss xs → (cs : List Slot) (ds : List StateId) → map (id_at table) cs
        ≡ map (λ d. Some (stand_in rs ks d)) ds → ((d : StateId) → IsTrue (is_among d ds) → IsTrue (is_known rs d)) →
        list_any (λ c. is_slot_above_part table c ss) cs ≡ list_any (λ d. is_above_part rs d xs) ds
    children-told ss are [] [] e known = refl
    children-told ss are [] (d ∷ ds) e known = absurd (let bad : ⊥ = cc in bad)
    children-told ss are (c ∷ cs) [] e known = absurd (let bad : ⊥ = cc in bad)
    children-told ss are (c ∷ cs) (d ∷ ds) e known =
        let here : id_at table c ≡ Some (stand_in rs ks d) = cc in
        let rest : map (id_at table) cs ≡ map (λ z. Some (stand_in rs ks z)) ds = cc in
        ap₂ ◌||◌ (part-told c (stand_in rs ks d) here ss xs are ∙ stand-in-part d (known d (among-first d ds)))
        (children-told ss are cs ds rest (λ z m. known z (among-later z d ds m)))

  -- what is asked of a slot is whether its state is a last shared one
  pub shared-told : (slot : Slot) (x : StateId) → id_at table slot ≡ Some x → (ss : List Slot) (xs : List StateId) → Named table ss xs → (cs : List Slot) →
      map (id_at table) cs ≡ map (λ c. Some (stand_in rs ks c)) (children rs x) →
      (is_slot_above_all table slot ss && (list_any (λ s. eqb s.0 slot.0) ss || list_any (λ c. is_slot_above_part table c ss) cs)) ≡ is_last_shared rs xs x
  shared-told slot x named ss xs are cs children_are =
      ap₂ ◌&&◌ (all-told slot x named ss xs are)
      (ap₂ ◌||◌ (one-told slot x named ss xs are) (children-told xs (named-are_kept ss xs are) ss are cs (children rs x) children_are
      (λ d m. child_is_known rs x d m)))

-- what isn't above all isn't a last shared one
pub not-last : (rs : List Record) (xs : List StateId) (x : StateId) → IsFalse (is_above_all rs x xs) → IsFalse (is_last_shared rs xs x)
not-last rs xs x n = and_left (is_above_all rs x xs) (is_among x xs || list_any (λ c. is_above_part rs c xs) (children rs x)) n

-- what is above all and one of them is
pub one-is_last : (rs : List Record) (xs : List StateId) (x : StateId) → IsTrue (is_above_all rs x xs) → IsTrue (is_among x xs) →
    IsTrue (is_last_shared rs xs x)
one-is_last rs xs x t m = and_from (is_above_all rs x xs) (is_among x xs || list_any (λ c. is_above_part rs c xs) (children rs x)) t
    (or_left (is_among x xs) (list_any (λ c. is_above_part rs c xs) (children rs x)) m)

-- what is above a part isn't above all
pub part-isnt_last : (rs : List Record) (xs : List StateId) (x : StateId) → IsTrue (is_above_part rs x xs) → IsFalse (is_last_shared rs xs x)
part-isnt_last rs xs x p = not-last rs xs x (not-true (is_above_all rs x xs) (and_parts (list_any (is_above rs x) xs) (not (is_above_all rs x xs)) p).1)
