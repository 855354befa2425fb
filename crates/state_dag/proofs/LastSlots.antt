-- What slots name when entries have grown and one more came last.
use Rattle.std.proofs.Common.{◌≡◌, ℕ, ◌<◌, true, false, cond, refl, ltb, eqb, List, [], ◌∷◌, ◌++◌, map, find, slice_get, Option, Some, None, is_some, IsTrue, sym}
use Rattle.std.proofs.Common.{ap, subst, ◌∙◌, arith}
use Rattle.std.specs.List.{list_all}
use Rattle.std.specs.Option.{option_map, option_map_or}
use Rattle.std.proofs.lemmas.Bool.{and_parts, and_from, both_ways, false_from_ne_true, cond-true, cond-false, eq-eqb, eqb-true, ltb-true}
use Rattle.std.proofs.lemmas.Option.{none-some, same_Some}
use Rattle.tardis_base.specs.declared.ids.StateId.{StateId}
use Rattle.tardis_base.specs.declared.ids.Slot.{Slot}
use Rattle.state_dag.specs.Table.{Entry, Table, entry_at, id_at, is_slot, arrive_in_order, is_kept_at, arrival_at, child_slots_at}
use Rattle.state_dag.specs.Grown.{is_slot_among, only_if, KeepsPlaces}
use Rattle.state_dag.specs.Answers.{IsNewSlot, KeepsSlots, GivesChild}
use Rattle.state_dag.proofs.Following.{Follow}
use Rattle.state_dag.proofs.GrownSlots.{or_else, find-after, found-slot}
use Rattle.state_dag.proofs.KeptEntries.{all-found}
use Rattle.state_dag.proofs.Became.{Became, FoundBoth, follow-found}

some-entry : (o : Option Entry) → is_some o ≡ true → (e : Entry) × (o ≡ Some e)
some-entry None t = absurd (both_ways false refl t)
some-entry (Some e) t = (e, refl)

module _ (old new table : Table) (parents : List Slot) (x : StateId) (slot : Slot) (gs : List Entry) (e : Entry)
    (f : Follow (Became table parents x slot) old.entries gs)
    (after : new.entries ≡ gs ++ e ∷ []) (own : e.slot ≡ slot) (fresh : entry_at old slot ≡ None) where
  looked : (s : Slot) → entry_at new s ≡ or_else (find (λ g. eqb g.slot.0 s.0) gs) (cond (eqb e.slot.0 s.0) (Some e) None)
  looked s = ap (find (λ g. eqb g.slot.0 s.0)) after ∙ find-after s.0 gs e

  both : (s : Slot) → FoundBoth (Became table parents x slot) (entry_at old s) (find (λ g. eqb g.slot.0 s.0) gs)
  both s = follow-found (Became table parents x slot) (λ o n h. h.slot_stays) s.0 old.entries gs f

  stays-found : (s : Slot) (o : Entry) → entry_at old s ≡ Some o → (n : Entry) × (entry_at new s ≡ Some n) × Became table parents x slot o n
  stays-found s o is = go (entry_at old s) (find (λ g. eqb g.slot.0 s.0) gs) (both s) is (looked s)
    where
      go : (p q : Option Entry) → FoundBoth (Became table parents x slot) p q → p ≡ Some o → entry_at new s
          ≡ or_else q (cond (eqb e.slot.0 s.0) (Some e) None) →
          (n : Entry) × (entry_at new s ≡ Some n) × Became table parents x slot o n
      go None q b h l = absurd (none-some o h)
      go (Some p) None b h l = absurd (b)
      go (Some p) (Some q) b h l = (q, l, subst (λ z. Became table parents x slot z q) (same_Some p o h) b)

  pub last-found : entry_at new slot ≡ Some e
  last-found = looked slot ∙ go (entry_at old slot) (find (λ g. eqb g.slot.0 slot.0) gs) (both slot) fresh
    where
      go : (p q : Option Entry) → FoundBoth (Became table parents x slot) p q → ◌≡◌ {A = Option Entry} p None →
          or_else q (cond (eqb e.slot.0 slot.0) (Some e) None) ≡ Some e
      go None None b h = cond-true (eqb e.slot.0 slot.0) (Some e) None (eq-eqb e.slot.0 slot.0 (ap (λ (s : Slot). s.0) own))
      go None (Some q) b h = absurd (b)
      go (Some p) q b h = absurd (none-some p (sym h))

  pub slot-stays : (s : Slot) → is_slot old s ≡ true → is_slot new s ≡ true
  slot-stays s there = (let o = some-entry (entry_at old s) there in let w = stays-found s o.0 o.1 in ap is_some w.1)

  -- and no other slot but the last one's is new
  pub slot-was : (s : Slot) → (s ≡ slot → ⊥) → is_slot new s ≡ true → is_slot old s ≡ true
  slot-was s differ there = go (entry_at old s) (find (λ g. eqb g.slot.0 s.0) gs) (both s) (looked s)
    where
      other : eqb e.slot.0 s.0 ≡ false
      other = false_from_ne_true (eqb e.slot.0 s.0) (λ t. differ
          (sym (ap (λ n. let z : Slot = record { 0 = n } in z) (sym (ap (λ (z : Slot). z.0) own) ∙ eqb-true e.slot.0 s.0 t))))

      go : (p q : Option Entry) → FoundBoth (Became table parents x slot) p q → entry_at new s ≡ or_else q (cond (eqb e.slot.0 s.0) (Some e) None) →
          is_some p ≡ true
      go (Some p) q b l = refl
      go None (Some q) b l = absurd (b)
      go None None b l = absurd (both_ways true (sym there ∙ ap is_some (l ∙ cond-false (eqb e.slot.0 s.0) (Some e) None other)) refl)

  pub slots-kept : KeepsSlots old new
  slots-kept s y named = go (entry_at old s) refl named
    where
      go : (o : Option Entry) → entry_at old s ≡ o → option_map (λ g. g.id) o ≡ Some y → id_at new s ≡ Some y
      go None is h = absurd (none-some y h)
      go (Some o) is h =
          let w = stays-found s o is in
          ap (option_map (λ (g : Entry). g.id)) w.1 ∙ ap (λ z. Some z) w.2.id_stays ∙ h

  pub last-named : (y : StateId) → e.id ≡ y → IsNewSlot old new y slot
  last-named y is = (ap (option_map (λ (g : Entry). g.id)) fresh, ap (option_map (λ (g : Entry). g.id)) last-found ∙ ap (λ z. Some z) is)

  arrives-as : (s : Slot) (o : Entry) → entry_at old s ≡ Some o → arrival_at new s ≡ o.arrival
  arrives-as s o is = (let w = stays-found s o is in ap (λ p. option_map_or (λ (g : Entry). g.arrival) p 0) w.1 ∙ w.2.arrival_stays)

  pub slot-arrives : (s : Slot) → is_slot old s ≡ true → arrival_at new s ≡ arrival_at old s
  slot-arrives s there =
      let o = some-entry (entry_at old s) there in
      arrives-as s o.0 o.1 ∙ sym (ap (λ p. option_map_or (λ (g : Entry). g.arrival) p 0) o.1)

  pub kept-stays : arrive_in_order new.entries ≡ true → (s : Slot) → IsTrue (is_kept_at old s) → IsTrue (is_kept_at new s)
      × (arrival_at new s ≡ arrival_at old s)
  kept-stays up s h =
      let there = (and_parts (is_slot old s) (arrive_in_order old.entries) h).0 in
      let o = some-entry (entry_at old s) there in (
        and_from (is_slot new s) (arrive_in_order new.entries) (slot-stays s there) up,
        arrives-as s o.0 o.1 ∙ sym (ap (λ p. option_map_or (λ (g : Entry). g.arrival) p 0) o.1),
      )

  pub last-arrives : arrive_in_order new.entries ≡ true → IsTrue (is_kept_at new slot) × (arrival_at new slot ≡ e.arrival)
  last-arrives up = (
    and_from (is_slot new slot) (arrive_in_order new.entries) (ap is_some last-found) up,
    ap (λ p. option_map_or (λ (g : Entry). g.arrival) p 0) last-found,
  )

  pub arrives-last : (known : ℕ) → e.arrival ≡ known → list_all (λ m. ltb m.arrival known) old.entries ≡ true → (s : Slot) → IsTrue (is_kept_at old s) →
      arrival_at new s < arrival_at new slot
  arrives-last known is all s h =
      let there = (and_parts (is_slot old s) (arrive_in_order old.entries) h).0 in
      let o = some-entry (entry_at old s) there in
      let here = arrives-as s o.0 o.1 in
      let before = ltb-true o.0.arrival known (all-found (λ m. ltb m.arrival known) old.entries s.0 o.0 o.1 all) in
      let last = ap (λ p. option_map_or (λ (g : Entry). g.arrival) p 0) last-found in
      omega arith

  -- what became of the parents and children of the states
  abbrev child_slots_of : Option Entry → List Slot
  child_slots_of o = option_map_or (λ g. g.stand_ins) o []

  places-keep : (s : Slot) → KeepsPlaces (child_slots_at old s) (child_slots_at new s)
  places-keep s = go (entry_at old s) refl
    where
      go : (o : Option Entry) → entry_at old s ≡ o → KeepsPlaces (child_slots_of o) (child_slots_at new s)
      go None is = λ i c there. absurd (none-some c there)
      go (Some o) is = λ i c there.
          let w = stays-found s o is in
          subst (λ p. slice_get (child_slots_of p) i ≡ Some c) (sym w.1) (w.2.places i c there)

  pub gives-child : (told : Table) → old ≡ told → map (λ p. Some p) e.parents ≡ map (id_at told) parents → e.stand_ins ≡ [] → GivesChild told new parents slot
  gives-child told same has none = subst (λ t. GivesChild t new parents slot) same (record {
    has_parents = ap (λ o. option_map (map (λ (p : StateId). Some p)) (option_map (λ (g : Entry). g.parents) o)) last-found ∙ ap (λ z. Some z) (has ∙ ap (λ t. map (id_at t) parents) (sym same));
    childless = ap child_slots_of last-found ∙ none;
    parents_stay = λ s there.
        let o = some-entry (entry_at old s) there in
        let w = stays-found s o.0 o.1 in
        ap (option_map (λ (g : Entry). g.parents)) w.1 ∙ ap (λ z. Some z) w.2.parents_stay ∙ sym (ap (option_map (λ (g : Entry). g.parents)) o.1);
    places = places-keep;
    last = λ distinct s there.
        let o = some-entry (entry_at old s) there in
        let w = stays-found s o.0 o.1 in
        ap child_slots_of w.1 ∙ (w.2.child distinct).1
        ∙ ap (λ k. o.0.stand_ins ++ only_if (is_slot_among (record { 0 = k }) parents) slot) (found-slot s.0 old.entries o.0 o.1)
        ∙ ap (λ p. child_slots_of p ++ only_if (is_slot_among s parents) slot) (sym o.1);
  })
