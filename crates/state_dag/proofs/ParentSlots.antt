-- Which slots name which states, and what a table says of those of a new state's parents.
use Rattle.std.proofs.Common.{◌≡◌, ℕ, Bool, false, not, ◌||◌, ◌&&◌, eqb, List, [], ◌∷◌, length, map, find, slice_get, Some, IsTrue, inl, inr, refl}
use Rattle.std.proofs.Common.{sym, ap, ap₂, subst, ◌∙◌, eqb-true, eq-eqb}
use Rattle.std.specs.List.{list_any}
use Rattle.std.specs.Option.{option_map_or, option_and_then}
use Rattle.std.proofs.lemmas.Bool.{and_parts, or_left, cases_Bool, not-true, false_from_ne_true}
use Rattle.std.proofs.lemmas.Option.{none-some, same_Some}
use Rattle.tardis_base.specs.declared.ids.StateId.{StateId}
use Rattle.tardis_base.specs.declared.ids.Slot.{Slot}
use Rattle.tardis_base.specs.declared.records.Record.{Record}
use Rattle.tardis_base.specs.Ids.{same_id, is_among}
use Rattle.fork_path.specs.Pairs.{has_pair}
use Rattle.plain_dag.specs.States.{children, is_known}
use Rattle.plain_dag.specs.Above.{is_above, are_comparable, are_apart}
use Rattle.plain_dag.specs.Collection.{stand_in}
use Rattle.plain_dag.specs.Paths.{leads_to}
use Rattle.plain_dag.proofs.Ids.{same_test, not-both, same_id-true, same_id_from, among-first, among-later, any-from}
use Rattle.plain_dag.proofs.Order.{above-reflexive, apart-means-incomparable}
use Rattle.plain_dag.proofs.States.{child_is_known}
use Rattle.plain_dag.proofs.StandIns.{stands-in-well}
use Rattle.state_dag.specs.Table.{Entry, Table, id_at, is_slot_above}
use Rattle.state_dag.specs.Stands.{is_taken, Stands}
use Rattle.state_dag.specs.Grown.{path_at, number_of_children, first_child, is_slot_among, leads_first}
use Rattle.state_dag.proofs.Places.{AllDiffer}
use Rattle.state_dag.proofs.Known.{kept-differ}
use Rattle.state_dag.proofs.Standing.{found-is_named, entry-of_id, shown, slot-is_kept, slots-tell}
use Rattle.state_dag.proofs.Counting.{Differ}

pub slot_from : (a b : Slot) → a.0 ≡ b.0 → a ≡ b
slot_from a b e = let named : ℕ → Slot = λ n. record { 0 = n } in ap named e

-- where ids differ, entries with one id are at one slot
one-place : (es : List Entry) (j k : ℕ) (e f : Entry) → AllDiffer (map (λ g. g.id) es) → find (λ g. eqb g.slot.0 j) es ≡ Some e →
    find (λ g. eqb g.slot.0 k) es ≡ Some f → e.id ≡ f.id → j ≡ k
one-place [] j k e f differ is_e is_f same = absurd (none-some e is_e)
one-place (g ∷ es) j k e f differ is_e is_f same = elim (cases_Bool (eqb g.slot.0 j)) [
  | inl t ↦ elim (cases_Bool (eqb g.slot.0 k)) [
    | inl u ↦ sym (eqb-true g.slot.0 j t) ∙ eqb-true g.slot.0 k u
    | inr n ↦
        let first : g ≡ e = same_Some g e (rw t at is_e) in
        let later = found-is_named es k f (rw n at is_f) in
        not-both (is_among g.id (map (λ h. h.id) es)) (subst (λ z. IsTrue (is_among z (map (λ (h : Entry). h.id) es)))
        (sym (ap (λ (h : Entry). h.id) first ∙ same)) later) differ.0
  ]
  | inr m ↦ elim (cases_Bool (eqb g.slot.0 k)) [
    | inl u ↦
        let first : g ≡ f = same_Some g f (rw u at is_f) in
        let later = found-is_named es j e (rw m at is_e) in
        not-both (is_among g.id (map (λ h. h.id) es)) (subst (λ z. IsTrue (is_among z (map (λ (h : Entry). h.id) es)))
        (same ∙ sym (ap (λ (h : Entry). h.id) first)) later) differ.0
    | inr n ↦ one-place es j k e f differ.1 (rw m at is_e) (rw n at is_f) same
  ]
]

module _ (table : Table) (rs : List Record) (ks : List StateId) (stands : Stands table rs ks) where
  -- a state has one slot
  pub one-slot : (a b : Slot) (x : StateId) → id_at table a ≡ Some x → id_at table b ≡ Some x → a ≡ b
  one-slot a b x named_a named_b =
      let v = entry-of_id table a x named_a in
      let w = entry-of_id table b x named_b in
      let differ : AllDiffer (map (λ e. e.id) table.entries) = subst AllDiffer (sym stands.ids) (kept-differ rs ks stands.dag) in
      slot_from a b (one-place table.entries a.0 b.0 v.0 w.0 differ v.1 w.1 (v.2 ∙ sym w.2))

  -- one slot is another exactly where their states are one
  pub same-slot : (a b : Slot) (x y : StateId) → id_at table a ≡ Some x → id_at table b ≡ Some y → eqb a.0 b.0 ≡ same_id x y
  same-slot a b x y named_a named_b = same_test (eqb a.0 b.0) (same_id x y)
      (λ t. same_id_from x y (same_Some x y (sym named_a ∙ (ap (id_at table) (slot_from a b (eqb-true a.0 b.0 t)) ∙ named_b))))
      (λ t. eq-eqb a.0 b.0 (ap (λ (s : Slot). s.0) (one-slot a b x named_a (named_b ∙ ap (λ z. Some z) (sym (same_id-true x y t))))))

  -- how many children, and what path, the state at a slot has
  pub children-at : (slot : Slot) (x : StateId) → id_at table slot ≡ Some x → number_of_children table slot ≡ length (children rs x)
  children-at slot x named =
      let w = entry-of_id table slot x named in
      ap (λ o. option_map_or (λ (e : Entry). length e.children) o 0) w.1 ∙ ap length (shown table rs ks stands slot w.0 x w.1 named).has_children

  pub path-taken : (slot : Slot) (x : StateId) → id_at table slot ≡ Some x → (pair : ℕ × ℕ) → has_pair pair (path_at table slot) ≡ is_taken table rs x pair
  path-taken slot x named pair =
      let w = entry-of_id table slot x named in
      ap (λ o. has_pair pair (option_map_or (λ (e : Entry). e.path) o [])) w.1 ∙ (shown table rs ks stands slot w.0 x w.1 named).has_path pair

  -- the stand-in of a state's first child is above the kept states that the child is above
  first-above : (t : Slot) (y : StateId) → id_at table t ≡ Some y → (ss : List Slot) (cs : List StateId) → map (id_at table) ss
      ≡ map (λ c. Some (stand_in rs ks c)) cs →
      ((c : StateId) → IsTrue (is_among c cs) → IsTrue (is_known rs c)) →
      option_map_or (λ s. is_slot_above table s t) (slice_get ss 0) false ≡ option_map_or (λ c. is_above rs c y) (slice_get cs 0) false
  first-above t y named [] [] same known = refl
  first-above t y named [] (c ∷ cs) same known = absurd (let bad : ⊥ = cc in bad)
  first-above t y named (s ∷ ss) [] same known = absurd (let bad : ⊥ = cc in bad)
  first-above t y named (s ∷ ss) (c ∷ cs) same known =
      let here : id_at table s ≡ Some (stand_in rs ks c) = cc in
      slots-tell table rs ks stands s t (stand_in rs ks c) y here named
      ∙ sym ((stands-in-well rs ks stands.dag stands.shared).tells c y (known c (among-first c cs)) (slot-is_kept table rs ks stands t y named))

  -- whether the only child of a state leads somewhere
  pub leads-first-is : (s t : Slot) (p y : StateId) → id_at table s ≡ Some p → id_at table t ≡ Some y →
      leads_first table t s ≡ (eqb (length (children rs p)) 1 && leads_to rs y (p, 0))
  leads-first-is s t p y named_s named_t =
      let w = entry-of_id table s p named_s in
      let shows = shown table rs ks stands s w.0 p w.1 named_s in
      ap (λ n. eqb n 1 && option_map_or (λ c. is_slot_above table c t) (first_child table s) false) (children-at s p named_s)
      ∙ (ap (λ o. eqb (length (children rs p)) 1 && option_map_or (λ c. is_slot_above table c t)
      (option_and_then (λ (e : Entry). slice_get e.stand_ins 0) o) false) w.1
      ∙ ap (λ b. eqb (length (children rs p)) 1 && b) (first-above t y named_t w.0.stand_ins (children rs p) shows.has_stand_ins
      (λ c m. child_is_known rs p c m)))

  -- ===== Lists of slots

  -- where slots name states, what a test tells of the slots is what another tells of the states
  pub any-named : (P : Slot → Bool) (Q : StateId → Bool) (ss : List Slot) (ps : List StateId) → map (id_at table) ss ≡ map (λ p. Some p) ps →
      ((s : Slot) (p : StateId) → id_at table s ≡ Some p → IsTrue (is_among p ps) → P s ≡ Q p) → list_any P ss ≡ list_any Q ps
  any-named P Q [] [] same f = refl
  any-named P Q [] (p ∷ ps) same f = absurd (let bad : ⊥ = cc in bad)
  any-named P Q (s ∷ ss) [] same f = absurd (let bad : ⊥ = cc in bad)
  any-named P Q (s ∷ ss) (p ∷ ps) same f =
      let here : id_at table s ≡ Some p = cc in
      let rest : map (id_at table) ss ≡ map (λ q. Some q) ps = cc in
      ap₂ (λ a b. a || b) (f s p here (among-first p ps)) (any-named P Q ss ps rest (λ t q named m. f t q named (among-later q p ps m)))

  -- the slot is one of these exactly where its state is one of those
  pub among-slots : (ss : List Slot) (ps : List StateId) → map (id_at table) ss ≡ map (λ p. Some p) ps → (slot : Slot) (x : StateId) → id_at table slot
      ≡ Some x → is_slot_among slot ss ≡ is_among x ps
  among-slots ss ps same slot x named = any-named (λ s. eqb s.0 slot.0) (same_id x) ss ps same (λ s p here m. turned s p here)
    where
      turned : (s : Slot) (p : StateId) → id_at table s ≡ Some p → eqb s.0 slot.0 ≡ same_id x p
      turned s p here = same-slot s slot p x here named ∙ same_test (same_id p x) (same_id x p) (λ t. same_id_from x p (sym (same_id-true p x t)))
          (λ t. same_id_from p x (sym (same_id-true x p t)))

  -- slots of states that differ differ
  pub slots-differ : (ss : List Slot) (ps : List StateId) → map (id_at table) ss ≡ map (λ p. Some p) ps → Differ same_id ps → Differ (λ a b. eqb b.0 a.0) ss
  slots-differ [] [] same d = tt
  slots-differ [] (p ∷ ps) same d = absurd (let bad : ⊥ = cc in bad)
  slots-differ (s ∷ ss) [] same d = absurd (let bad : ⊥ = cc in bad)
  slots-differ (s ∷ ss) (p ∷ ps) same d =
      let here : id_at table s ≡ Some p = cc in
      let rest : map (id_at table) ss ≡ map (λ q. Some q) ps = cc in
      (among-slots ss ps rest s p here ∙ d.0, slots-differ ss ps rest d.1)

-- states that are apart differ
pub apart-differ : (rs : List Record) (ps : List StateId) → IsTrue (are_apart rs ps) → Differ same_id ps
apart-differ rs [] apart = tt
apart-differ rs (p ∷ ps) apart =
    let parts = and_parts (not (list_any (are_comparable rs p) ps)) (are_apart rs ps) (sym (apart-means-incomparable rs p ps) ∙ apart) in (
      false_from_ne_true (is_among p ps) (λ m.
          not-both (list_any (are_comparable rs p) ps) (any-from (are_comparable rs p) ps p m
          (or_left (is_above rs p p) (is_above rs p p) (above-reflexive rs p)))
          (not-true (list_any (are_comparable rs p) ps) parts.0)),
      apart-differ rs ps parts.1,
    )
