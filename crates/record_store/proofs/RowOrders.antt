-- What holds of the store's memory after a row of states that write nothing.
use Rattle.std.proofs.Common.{◌≡◌, ◌⊎◌, ℕ, ◌+◌, ◌-◌, ◌<◌, true, false, eqb, ltb, ◌&&◌, List, [], ◌∷◌, is_some, Result, Ok, Err}
use Rattle.std.proofs.Common.{IsTrue, IfOk, inl, inr, refl, sym, ap, subst, ◌∙◌, arith}
use Rattle.std.specs.List.{list_all}
use Rattle.std.proofs.lemmas.Bool.{and_parts, and_from, both_ways, cases_Bool, eqb-true, eq-eqb, ltb-true, lt-ltb}
use Rattle.tardis_base.specs.declared.ids.Slot.{Slot}
use Rattle.state_dag.specs.declared.rows.RowFault.{RowFault}
use Rattle.state_dag.specs.declared.rows.RowFault.TheVariants.{BadSite, Empty, SeqEnd, NoMemory}
use Rattle.state_dag.specs.Table.{Entry, Table, is_slot, is_kept_at, arrival_at, arrive_in_order}
use Rattle.state_dag.specs.Rows.{moved_on, with_last, advanced, AdvancedBy}
use Rattle.state_dag.proofs.ParentSlots.{slot_from}
use Rattle.version_list.specs.declared.histories.Version.{Version}
use Rattle.version_list.specs.Versions.{versions_of, are_in_order}
use Rattle.record_store.specs.declared.RecordStore.TheInside.{Inside}
use Rattle.record_store.specs.Held.{IsHeld}
use Rattle.record_store.proofs.ChildNotes.{none-true}
use Rattle.record_store.proofs.Next.{found_in, arrival_in, first-found, later-found, there-later, behind, rest-in_order}

-- ===== The last entry

-- the number of the last entry's slot
abbrev last_number : List Entry → ℕ
last_number [] = 0
last_number (e ∷ []) = e.slot.0
last_number (e ∷ f ∷ es) = last_number (f ∷ es)

module _ (table : Table) (site n : ℕ) where
  abbrev moved_last : List Entry → List Entry
  moved_last es = with_last (moved_on table site n) es

  first-there : (e : Entry) (es : List Entry) → is_some (found_in (moved_last (e ∷ es)) e.slot.0) ≡ true
  first-there e [] = (let same = eq-eqb e.slot.0 e.slot.0 refl in rw same refl)
  first-there e (f ∷ es) = (let same = eq-eqb e.slot.0 e.slot.0 refl in rw same refl)

  -- what is found arrived before the last one, or is it
  last-or-before : (es : List Entry) → arrive_in_order (moved_last es) ≡ true → (k : ℕ) → is_some (found_in (moved_last es) k) ≡ true →
      (arrival_in (moved_last es) k < table.known + n - 1) ⊎ ((last_number es ≡ k) × (arrival_in (moved_last es) k ≡ table.known + n - 1))
  last-or-before [] up k there = absurd (both_ways false refl there)
  last-or-before (e ∷ []) up k there = elim (cases_Bool (eqb e.slot.0 k)) [
    | inl t ↦ inr (eqb-true e.slot.0 k t, first-found (moved_on table site n e) [] k t)
    | inr f ↦ absurd (both_ways false refl (there-later (moved_on table site n e) [] k f there))
  ]
  last-or-before (e ∷ f ∷ es) up k there =
      let rest = moved_last (f ∷ es) in
      let up_rest = rest-in_order e rest up in
      elim (cases_Bool (eqb e.slot.0 k)) [
        | inl t ↦
            let is = first-found e rest k t in
            let less = behind e rest f.slot.0 up (first-there f es) in
            elim (last-or-before (f ∷ es) up_rest f.slot.0 (first-there f es)) [
              | inl before ↦ inl (omega (arith, is, less, before))
              | inr last ↦ (let same = last.1 in inl (omega (arith, is, less, same)))
            ]
        | inr o ↦
            let is = later-found e rest k o in
            elim (last-or-before (f ∷ es) up_rest k (there-later e rest k o there)) [
              | inl before ↦ inl (omega (arith, is, before))
              | inr last ↦ inr (last.0, is ∙ last.1)
            ]
      ]

-- ===== The order

module _ (old new : Table) (slot : Slot) (kept : (s : Slot) → is_kept_at new s ≡ is_kept_at old s)
    (arrivals : (s : Slot) → (s ≡ slot → ⊥) → arrival_at new s ≡ arrival_at old s)
    (newest : (s : Slot) → (s ≡ slot → ⊥) → IsTrue (is_kept_at old s) → arrival_at old s < arrival_at old slot)
    (newest_now : (s : Slot) → (s ≡ slot → ⊥) → IsTrue (is_kept_at old s) → IsTrue (is_kept_at old slot) → arrival_at new s < arrival_at new slot) where
  cases-slot : (s : Slot) → (s ≡ slot) ⊎ (s ≡ slot → ⊥)
  cases-slot s = elim (cases_Bool (eqb s.0 slot.0)) [
    | inl t ↦ inl (slot_from s slot (eqb-true s.0 slot.0 t))
    | inr f ↦ inr (λ e. both_ways (eqb s.0 slot.0) f (eq-eqb s.0 slot.0 (ap (λ (q : Slot). q.0) e)))
  ]

  -- kept states arrived one after the other as before
  less-stays : (s t : Slot) → IsTrue (is_kept_at old s) → IsTrue (is_kept_at old t) → arrival_at old s < arrival_at old t → arrival_at new s < arrival_at new t
  less-stays s t kept_s kept_t less = elim (cases-slot s) [
    | inl e ↦
        let other : t ≡ slot → ⊥ = λ f. (let same = ap (arrival_at old) (e ∙ sym f) in omega (arith, same, less)) in
        let before = newest t other kept_t in
        let same = ap (arrival_at old) e in
        absurd (omega (arith, before, same, less))
    | inr other ↦ elim (cases-slot t) [
      | inl f ↦
          subst (λ (q : Slot). arrival_at new s < arrival_at new q) (sym f)
          (newest_now s other kept_s (subst (λ (q : Slot). IsTrue (is_kept_at old q)) f kept_t))
      | inr apart ↦ (let one = arrivals s other in let two = arrivals t apart in omega (arith, one, two, less))
    ]
  ]

  less-was : (s t : Slot) → IsTrue (is_kept_at old s) → IsTrue (is_kept_at old t) → arrival_at new s < arrival_at new t → arrival_at old s < arrival_at old t
  less-was s t kept_s kept_t less = elim (cases-slot s) [
    | inl e ↦
        let other : t ≡ slot → ⊥ = λ f. (let same = ap (arrival_at new) (e ∙ sym f) in omega (arith, same, less)) in
        let before = newest_now t other kept_t (subst (λ (q : Slot). IsTrue (is_kept_at old q)) e kept_s) in
        let same = ap (arrival_at new) e in
        absurd (omega (arith, before, same, less))
    | inr other ↦ elim (cases-slot t) [
      | inl f ↦ subst (λ (q : Slot). arrival_at old s < arrival_at old q) (sym f) (newest s other kept_s)
      | inr apart ↦ (let one = arrivals s other in let two = arrivals t apart in omega (arith, one, two, less))
    ]
  ]

  order-parts : (v : Version) (vs : List Version) → IsTrue (are_in_order (is_kept_at old) (arrival_at old) (v ∷ vs)) →
      IsTrue (is_kept_at old v.slot) × IsTrue (list_all (λ w. ltb (arrival_at old v.slot) (arrival_at old w.slot)) vs)
      × IsTrue (are_in_order (is_kept_at old) (arrival_at old) vs)
  order-parts v vs h =
      let there = is_kept_at old v.slot in
      let later = list_all (λ w. ltb (arrival_at old v.slot) (arrival_at old w.slot)) vs in
      let outer = and_parts (there && later) (are_in_order (is_kept_at old) (arrival_at old) vs) h in
      let inner = and_parts there later outer.0 in
      (inner.0, inner.1, outer.1)

  later-too : (s : Slot) (vs : List Version) → IsTrue (is_kept_at old s) → IsTrue (are_in_order (is_kept_at old) (arrival_at old) vs) →
      IsTrue (list_all (λ w. ltb (arrival_at old s) (arrival_at old w.slot)) vs) → IsTrue (list_all (λ w. ltb (arrival_at new s) (arrival_at new w.slot)) vs)
  later-too s [] kept_s order later = refl
  later-too s (v ∷ vs) kept_s order later =
      let parts = order-parts v vs order in
      let both = and_parts (ltb (arrival_at old s) (arrival_at old v.slot)) (list_all (λ w. ltb (arrival_at old s) (arrival_at old w.slot)) vs) later in
      and_from (ltb (arrival_at new s) (arrival_at new v.slot)) (list_all (λ w. ltb (arrival_at new s) (arrival_at new w.slot)) vs)
      (lt-ltb (arrival_at new s) (arrival_at new v.slot)
      (less-stays s v.slot kept_s parts.0 (ltb-true (arrival_at old s) (arrival_at old v.slot) both.0)))
      (later-too s vs kept_s parts.2 both.1)

  -- so do the versions of a key
  order-too : (vs : List Version) → IsTrue (are_in_order (is_kept_at old) (arrival_at old) vs) → IsTrue (are_in_order (is_kept_at new) (arrival_at new) vs)
  order-too [] order = refl
  order-too (v ∷ vs) order =
      let parts = order-parts v vs order in
      let there = is_kept_at new v.slot in
      let later = list_all (λ w. ltb (arrival_at new v.slot) (arrival_at new w.slot)) vs in
      and_from (there && later) (are_in_order (is_kept_at new) (arrival_at new) vs)
      (and_from there later (kept v.slot ∙ parts.0) (later-too v.slot vs parts.0 parts.2 parts.1))
      (order-too vs parts.2)

-- ===== The memory

-- the entries stand in order
in-order : (old new : Table) (site n : ℕ) → new ≡ advanced old site n → ((s : Slot) → is_kept_at new s ≡ is_kept_at old s) →
    arrive_in_order old.entries ≡ true → arrive_in_order new.entries ≡ true
in-order old new site n same kept up = go old.entries refl
  where
    go : (es : List Entry) → old.entries ≡ es → arrive_in_order new.entries ≡ true
    go [] is = ap (λ (t : Table). arrive_in_order t.entries) same ∙ ap (λ es. arrive_in_order (with_last (moved_on old site n) es)) is
    go (e ∷ es) is =
        let itself = eq-eqb e.slot.0 e.slot.0 refl in
        let there : is_slot old e.slot ≡ true = ap (λ fs. is_some (found_in fs e.slot.0)) is ∙ (rw itself refl) in
        (and_parts (is_slot new e.slot) (arrive_in_order new.entries)
        (kept e.slot ∙ and_from (is_slot old e.slot) (arrive_in_order old.entries) there up)).1

-- what arrived after all others still did
newest-now : (old new : Table) (site n : ℕ) → new ≡ advanced old site n → ((s : Slot) → is_kept_at new s ≡ is_kept_at old s) → (slot : Slot) →
    arrival_at new slot ≡ old.known + n - 1 → (s : Slot) → (s ≡ slot → ⊥) → IsTrue (is_kept_at old s) → IsTrue (is_kept_at old slot) →
    arrival_at new s < arrival_at new slot
newest-now old new site n same kept slot arrived s other kept_s kept_slot =
    let ws = with_last (moved_on old site n) old.entries in
    let entries : new.entries ≡ ws = ap (λ (t : Table). t.entries) same in
    let parts = and_parts (is_slot new s) (arrive_in_order new.entries) (kept s ∙ kept_s) in
    let here = and_parts (is_slot new slot) (arrive_in_order new.entries) (kept slot ∙ kept_slot) in
    let up : arrive_in_order ws ≡ true = subst (λ es. arrive_in_order es ≡ true) entries parts.1 in
    let there : is_some (found_in ws s.0) ≡ true = subst (λ es. is_some (found_in es s.0) ≡ true) entries parts.0 in
    let itself : is_some (found_in ws slot.0) ≡ true = subst (λ es. is_some (found_in es slot.0) ≡ true) entries here.0 in
    let at_s : arrival_at new s ≡ arrival_in ws s.0 = ap (λ es. arrival_in es s.0) entries in
    let at_slot : arrival_at new slot ≡ arrival_in ws slot.0 = ap (λ es. arrival_in es slot.0) entries in
    elim (last-or-before old site n old.entries up s.0 there) [
      | inl before ↦ omega (arith, before, at_s, arrived)
      | inr last ↦ elim (last-or-before old site n old.entries up slot.0 itself) [
        | inl less ↦ absurd (omega (arith, less, at_slot, arrived))
        | inr end ↦ absurd (other (slot_from s slot (sym last.0 ∙ end.0)))
      ]
    ]

pub same-table : (old new : Table) (site n : ℕ) (f : RowFault) → AdvancedBy old new site n (Err f) → new ≡ old
same-table old new site n BadSite is = is.1
same-table old new site n Empty is = is.1
same-table old new site n SeqEnd is = is.1
same-table old new site n NoMemory is = is

pub held-after : (a : Inside) (new : Table) (site n : ℕ) (answer : Result Slot RowFault) → IsHeld a → AdvancedBy a.dag new site n answer →
    ((s : Slot) → is_kept_at new s ≡ is_kept_at a.dag s) → IfOk answer (λ slot. arrival_at new slot ≡ a.dag.known + n - 1) →
    IfOk answer (λ slot. (s : Slot) → (s ≡ slot → ⊥) → arrival_at new s ≡ arrival_at a.dag s) →
    IfOk answer (λ slot. (s : Slot) → (s ≡ slot → ⊥) → IsTrue (is_kept_at a.dag s) → arrival_at a.dag s < arrival_at a.dag slot) →
    IsHeld (record a { dag = new; notes = [] })
held-after a new site n (Err f) held is kept arrived arrivals newest =
    subst (λ (t : Table). IsHeld (record a { dag = t; notes = [] })) (sym (same-table a.dag new site n f is))
    (record { in_order = held.in_order; versions = held.versions; noted = held.noted; children = none-true a.dag a.versions })
held-after a new site n (Ok slot) held is kept arrived arrivals newest =
    let now = newest-now a.dag new site n is.1 kept slot arrived in
    record {
      in_order = in-order a.dag new site n is.1 kept held.in_order;
      versions = λ k. order-too a.dag new slot kept arrivals newest now (versions_of a.versions k) (held.versions k);
      noted = λ s t kept_s kept_t before.
          let here = sym (kept s) ∙ kept_s in
          let there = sym (kept t) ∙ kept_t in
          held.noted s t here there (less-was a.dag new slot kept arrivals newest now t s there here before);
      children = none-true new a.versions;
    }
