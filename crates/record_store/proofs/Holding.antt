-- What the calls read off the store's memory, and what they leave there.
use Rattle.std.proofs.Common.{◌≡◌, ℕ, ◌<◌, ◌||◌, ◌++◌, List, Result, Ok, Err, IsTrue, IsErrAnd, ◌∷◌, [], Option, Some, None, inl, inr, refl, sym, ap, subst, ◌∙◌, arith}
use Rattle.std.specs.Option.{option_map_or}
use Rattle.std.proofs.lemmas.Bool.{and_parts, and_from, or_left, or_right, both_ways, cases_Bool, cond-true, cond-false, eq-eqb}
use Rattle.tardis_base.specs.declared.ids.StateId.{StateId}
use Rattle.tardis_base.specs.declared.ids.Slot.{Slot}
use Rattle.tardis_base.specs.declared.records.Record.{Record}
use Rattle.tardis_base.specs.declared.faults.AddFault.{AddFault}
use Rattle.tardis_base.specs.declared.faults.AddFault.TheVariants.{NoMemory}
use Rattle.tardis_base.specs.Keys.{KeyWrite, write_of}
use Rattle.tardis_base.specs.Ids.{same_id}
use Rattle.plain_dag.specs.States.{root_record, arrival}
use Rattle.state_dag.specs.Table.{Entry, Table, entry_at, is_slot, arrive_in_order, is_kept_at, arrival_at}
use Rattle.state_dag.specs.Stands.{Stands}
use Rattle.state_dag.specs.Answers.{MayBeAdded, AddedTo, IsNewSlot, KeepsSlots}
use Rattle.version_list.specs.declared.histories.Version.{Version}
use Rattle.version_list.specs.Versions.{Versions, listed_keys, versions_of, version_by, are_in_order, is_noted, same_slot, IsInOrder}
use Rattle.record_store.specs.declared.RecordStore.TheInside.{Inside}
use Rattle.record_store.specs.Store.{Store}
use Rattle.record_store.specs.Held.{seen, IsHeld}
use Rattle.record_store.specs.Stands.{StoreStands}
use Rattle.record_store.specs.Answers.{AddedIn}
use Rattle.record_store.specs.declared.child_notes.ChildNote.{ChildNote}
use Rattle.record_store.specs.ChildNotes.{AreTrueNotes}
use Rattle.record_store.proofs.Adding.{same-stands, added-none, added-one}
use Rattle.record_store.proofs.ChildNotes.{notes-stay}

-- each slot is that of a kept state
pub slot-is_kept_at : (a : Inside) (store : Store) (slot : Slot) → seen a ≡ store → IsHeld a → IsTrue (is_slot store.table slot) →
    IsTrue (is_kept_at a.dag slot)
slot-is_kept_at a store slot is held h =
    and_from (is_slot a.dag slot) (arrive_in_order a.dag.entries) (subst (λ (s : Store). IsTrue (is_slot s.table slot)) (sym is) h) held.in_order

module _ (a : Inside) (store : Store) (is : seen a ≡ store) where
  -- the memory stands for what the store stands for
  pub seen-stands : (rs : List Record) (ks : List StateId) → StoreStands store rs ks → StoreStands (seen a) rs ks
  seen-stands rs ks stands = subst (λ s. StoreStands s rs ks) (sym is) stands

  seen-may : (rs : List Record) (ks : List StateId) (r : Record) (parents : List Slot) → MayBeAdded store.table rs ks r parents →
      MayBeAdded a.dag rs ks r parents
  seen-may rs ks r parents may = subst (λ (s : Store). MayBeAdded s.table rs ks r parents) (sym is) may

  -- what holds of the memory holds where nothing but room changed
  pub still-held : (dag : Table) (vs : Versions) → IsHeld a → dag ≡ a.dag → ((k : List ℕ) → versions_of vs k ≡ versions_of a.versions k) →
      ((s : Slot) → is_noted vs s ≡ is_noted a.versions s) →
      IsHeld (record a { dag = dag; versions = vs })
  still-held dag vs held same versions notes = record {
    in_order = subst (λ (t : Table). IsTrue (arrive_in_order t.entries)) (sym same) held.in_order;
    versions = λ k.
        subst (λ (l : List Version). IsTrue (are_in_order (is_kept_at dag) (arrival_at dag) l)) (sym (versions k))
        (subst (λ (t : Table). IsTrue (are_in_order (is_kept_at t) (arrival_at t) (versions_of a.versions k))) (sym same) (held.versions k));
    noted = λ s t kept kept_t before. notes s ∙ held.noted s t (subst (λ (d : Table). IsTrue (is_kept_at d s)) same kept)
        (subst (λ (d : Table). IsTrue (is_kept_at d t)) same kept_t)
        (subst (λ (d : Table). arrival_at d t < arrival_at d s) same before);
    children = notes-stay a.dag dag a.versions vs same versions a.notes held.children;
  }

  -- and where a state arrived, for which keys were noted
  pub held-grown : (dag : Table) (vs : Versions) → IsHeld a → (slot : Slot) →
      ((s : Slot) → IsTrue (is_kept_at a.dag s) → IsTrue (is_kept_at dag s) × (arrival_at dag s ≡ arrival_at a.dag s)) → IsTrue (is_kept_at dag slot) →
      ((s : Slot) → IsTrue (is_kept_at a.dag s) → arrival_at dag s < arrival_at dag slot) →
      ((s : Slot) → (s ≡ slot → ⊥) → IsTrue (is_slot dag s) → IsTrue (is_slot a.dag s)) → IsInOrder (is_kept_at dag) (arrival_at dag) vs →
      ((s : Slot) → is_noted vs s ≡ (same_slot slot s || is_noted a.versions s)) → (es : List (Slot × ChildNote)) → AreTrueNotes dag vs es →
      IsHeld (record a { dag = dag; versions = vs; notes = es })
  held-grown dag vs held slot kept kept_slot newest others order notes es children = record {
    in_order = (and_parts (is_slot dag slot) (arrive_in_order dag.entries) kept_slot).1;
    versions = order;
    noted = λ s t kept_s kept_t before. notes s ∙ elim (cases_Bool (same_slot slot s)) [
      | inl e ↦ or_left (same_slot slot s) (is_noted a.versions s) e
      | inr f ↦
          let was : (q : Slot) → (q ≡ slot → ⊥) → IsTrue (is_kept_at dag q) → IsTrue (is_kept_at a.dag q) = λ q other there.
          and_from (is_slot a.dag q) (arrive_in_order a.dag.entries) (others q other (and_parts (is_slot dag q) (arrive_in_order dag.entries) there).0)
          held.in_order in
          let here = was s (λ e. both_ways (same_slot slot s) f (eq-eqb slot.0 s.0 (ap (λ (q : Slot). q.0) (sym e)))) kept_s in
          let there = was t (λ e. let same = ap (arrival_at dag) e in let less = newest s here in absurd (omega (arith, same, less, before))) kept_t in
          let one = (kept s here).1 in
          let two = (kept t there).1 in
          or_right (same_slot slot s) (is_noted a.versions s) (held.noted s t here there (omega (arith, one, two, before)))
    ];
    children = children;
  }

  -- there was no memory
  pub short-of_memory : (vs : Versions) → ((k : List ℕ) → versions_of vs k ≡ versions_of a.versions k) → listed_keys vs ≡ listed_keys a.versions →
      (answer : Result Slot AddFault) → IsErrAnd answer (λ f. f ≡ NoMemory) →
      (rs : List Record) (ks : List StateId) (r : Record) → StoreStands store rs ks → AddedIn store (record { table = a.dag; versions = vs }) rs ks r answer
  short-of_memory vs versions listed (Ok slot) none rs ks r stands = absurd (none)
  short-of_memory vs versions listed (Err f) none rs ks r stands =
      subst (λ g. AddedIn store (record { table = a.dag; versions = vs }) rs ks r (Err g)) (sym none)
      (same-stands (seen a) (record { table = a.dag; versions = vs }) rs ks (seen-stands rs ks stands)
      (record { table = refl; versions = versions; listed = listed }))

  -- the table refused it
  pub refused-by_table : (dag : Table) (vs : Versions) (parents : List Slot) (f : AddFault) → dag ≡ a.dag →
      ((k : List ℕ) → versions_of vs k ≡ versions_of a.versions k) → listed_keys vs ≡ listed_keys a.versions → (answer : Result Slot AddFault) →
      IsErrAnd answer (λ g. g ≡ f) →
      (rs : List Record) (ks : List StateId) (r : Record) → StoreStands store rs ks → MayBeAdded store.table rs ks r parents →
      (Stands a.dag rs ks → MayBeAdded a.dag rs ks r parents → AddedTo a.dag dag rs ks r (Err f)) →
      AddedIn store (record { table = dag; versions = vs }) rs ks r answer
  refused-by_table dag vs parents f same versions listed (Ok slot) is_f rs ks r stands may added = absurd (is_f)
  refused-by_table dag vs parents f same versions listed (Err g) is_f rs ks r stands may added =
      let new : Store = record { table = dag; versions = vs } in
      let held = seen-stands rs ks stands in
      subst (λ h. AddedIn store new rs ks r (Err h)) (sym is_f)
      (subst (λ s. AddedIn s new rs ks r (Err f)) is
      (added-none (seen a) new rs ks r f held (record { table = same; versions = versions; listed = listed })
      (added held.table (seen-may rs ks r parents may))))

  -- it was added
  pub added-to_both : (dag : Table) (vs : Versions) (id : StateId) (writes : List KeyWrite) (parents : List Slot) (slot : Slot) →
      IsNewSlot a.dag dag id slot → KeepsSlots a.dag dag →
      ((k : List ℕ) → versions_of vs k ≡ versions_of a.versions k ++ version_by slot id (write_of k writes)) →
      (rs : List Record) (ks : List StateId) (r : Record) → StoreStands store rs ks → r.id ≡ id → r.writes ≡ writes →
      MayBeAdded store.table rs ks r parents → (Stands a.dag rs ks → MayBeAdded a.dag rs ks r parents → AddedTo a.dag dag rs ks r (Ok slot)) →
      AddedIn store (record { table = dag; versions = vs }) rs ks r (Ok slot)
  added-to_both dag vs id writes parents slot slot_is keeps versions rs ks r stands id_is writes_is may added =
      let new : Store = record { table = dag; versions = vs } in
      let held = seen-stands rs ks stands in
      let allowed = seen-may rs ks r parents may in
      subst (λ s. AddedIn s new rs ks r (Ok slot)) is
      (added-one (seen a) new rs ks r id writes parents slot held id_is writes_is allowed (added held.table allowed) slot_is keeps versions)

-- ===== Notes

-- in an empty history the one kept state arrived first
pub first-arrived : (table : Table) → Stands table (root_record ∷ []) [] → (s : Slot) → arrival_at table s ≡ 0
first-arrived table stands s = go (entry_at table s) refl
  where
    none-before : (x : StateId) → arrival (root_record ∷ []) x ≡ 0
    none-before x = elim (cases_Bool (same_id x root_record.id)) [
      | inl t ↦ cond-true (same_id x root_record.id) 0 0 t
      | inr f ↦ cond-false (same_id x root_record.id) 0 0 f
    ]

    go : (o : Option Entry) → entry_at table s ≡ o → option_map_or (λ e. e.arrival) o 0 ≡ 0
    go None is = refl
    go (Some e) is = (stands.shows s e is).arrived ∙ none-before e.id
