-- The holders that reads find, and the keys that a state holds.
use Rattle.std.proofs.Common.{◌≡◌, ℕ, Bool, true, false, ltb, List, [], ◌∷◌, filter, Option, Some, None, is_some, IsTrue, IfSome, inl, inr, refl, sym, ap}
use Rattle.std.proofs.Common.{subst, ◌∙◌}
use Rattle.std.specs.Option.{option_map, option_map_or, option_and_then}
use Rattle.std.proofs.lemmas.Bool.{cases_Bool, cond-true, cond-false, both_ways}
use Rattle.std.proofs.lemmas.Option.{same_Some}
use Rattle.tardis_base.specs.declared.ids.StateId.{StateId}
use Rattle.tardis_base.specs.declared.ids.Slot.{Slot}
use Rattle.tardis_base.specs.declared.records.Record.{Record}
use Rattle.tardis_base.specs.declared.records.Write.{Write}
use Rattle.tardis_base.specs.Ids.{is_among}
use Rattle.plain_dag.specs.States.{arrival}
use Rattle.plain_dag.specs.Above.{is_above}
use Rattle.plain_dag.specs.Writers.{latest_writer}
use Rattle.plain_dag.specs.Collection.{stand_in}
use Rattle.plain_dag.proofs.Ids.{same_test}
use Rattle.state_dag.specs.Table.{Entry, Table, entry_at, id_at, is_slot, is_entry_above, is_slot_above, arrival_at, arrive_in_order}
use Rattle.state_dag.proofs.Standing.{slot-is_kept}
use Rattle.version_list.specs.declared.histories.Version.{Version}
use Rattle.version_list.specs.Versions.{versions_of, has_version_at}
use Rattle.version_list.specs.Reads.{later_of, last_arrived, latest_version}
use Rattle.record_store.specs.Store.{Store}
use Rattle.record_store.specs.Stands.{holds_key, shown_version, StoreStands}
use Rattle.record_store.proofs.Holders.{last_state, holders, holder-parts, holder-from, last-holder}
use Rattle.record_store.proofs.Reading.{read_with, latest-shown}
use Rattle.record_store.proofs.Records.{versions-at}

-- ===== The version that is found

-- where it is shown, its slot names the state
held-of_shown : (table : Table) (rs : List Record) (k : List ℕ) (o : Option Version) (p : Option StateId) → option_map (shown_version table) o
    ≡ option_map (read_with rs k) p →
    option_and_then (id_at table) (option_map (λ v. v.slot) o) ≡ p
held-of_shown table rs k None None e = refl
held-of_shown table rs k None (Some y) e = cc
held-of_shown table rs k (Some v) None e = cc
held-of_shown table rs k (Some v) (Some y) e = ap (λ (p : Option StateId × Option (StateId × Write)). p.0)
    (same_Some (shown_version table v) (read_with rs k y) e)

pub holder-is_stand_in : (store : Store) (rs : List Record) (ks : List StateId) → StoreStands store rs ks → (slot : Slot) (x : StateId) →
    id_at store.table slot ≡ Some x → (k : List ℕ) →
    option_and_then (id_at store.table) (option_map (λ v. v.slot)
    (latest_version (is_slot_above store.table) (arrival_at store.table) (versions_of store.versions k) slot))
    ≡ option_map (stand_in rs ks) (latest_writer rs k x)
holder-is_stand_in store rs ks stands slot x named k =
    let vs = versions_of store.versions k in
    let hs = holders rs ks k in
    held-of_shown store.table rs k (latest_version (is_slot_above store.table) (arrival_at store.table) vs slot)
    (last_state (arrival rs) (filter (λ y. is_above rs y x) hs))
    (latest-shown store.table rs ks stands.table k slot x named vs hs (stands.versions k))
    ∙ last-holder rs ks stands.table.dag stands.table.shared k x (slot-is_kept store.table rs ks stands.table slot x named)

-- ===== It is at a slot

above-is_slot : (table : Table) (a b : Slot) → IsTrue (is_slot_above table a b) → IsTrue (is_slot table a)
above-is_slot table a b h = go (entry_at table a) h
  where
    go : (o : Option Entry) → option_map_or (λ e. option_map_or (λ f. is_entry_above e f) (entry_at table b) false) o false ≡ true → is_some o ≡ true
    go None e = absurd (both_ways false refl e)
    go (Some e) _ = refl

later-is_slot : (table : Table) (v : Version) (o : Option Version) → IsTrue (is_slot table v.slot) → IfSome o (λ w. IsTrue (is_slot table w.slot)) →
    IsTrue (is_slot table (later_of (arrival_at table) v o).slot)
later-is_slot table v None here there = here
later-is_slot table v (Some w) here there = elim (cases_Bool (ltb (arrival_at table v.slot) (arrival_at table w.slot))) [
  | inl t ↦ subst (λ (u : Version). IsTrue (is_slot table u.slot)) (sym (cond-true (ltb (arrival_at table v.slot) (arrival_at table w.slot)) w v t)) there
  | inr f ↦ subst (λ (u : Version). IsTrue (is_slot table u.slot)) (sym (cond-false (ltb (arrival_at table v.slot) (arrival_at table w.slot)) w v f)) here
]

found-is_slot : (table : Table) (slot : Slot) (vs : List Version) → IfSome (latest_version (is_slot_above table) (arrival_at table) vs slot)
    (λ v. IsTrue (is_slot table v.slot))
found-is_slot table slot [] = tt
found-is_slot table slot (v ∷ vs) =
    let above : Version → Bool = λ w. is_slot_above table w.slot slot in
    let fs = filter above vs in
    elim (cases_Bool (above v)) [
      | inl t ↦
          subst (λ ws. IfSome (last_arrived (arrival_at table) ws) (λ v. IsTrue (is_slot table v.slot))) (sym (cond-true (above v) (v ∷ fs) fs t))
          (later-is_slot table v (last_arrived (arrival_at table) fs) (above-is_slot table v.slot slot t) (found-is_slot table slot vs))
      | inr f ↦
          subst (λ ws. IfSome (last_arrived (arrival_at table) ws) (λ v. IsTrue (is_slot table v.slot))) (sym (cond-false (above v) (v ∷ fs) fs f))
          (found-is_slot table slot vs)
    ]

pub holder-is_slot : (table : Table) (slot : Slot) (vs : List Version) →
    IfSome (option_map (λ v. v.slot) (latest_version (is_slot_above table) (arrival_at table) vs slot)) (λ h. IsTrue (is_slot table h))
holder-is_slot table slot vs = go (latest_version (is_slot_above table) (arrival_at table) vs slot) (found-is_slot table slot vs)
  where
    go : (o : Option Version) → IfSome o (λ v. IsTrue (is_slot table v.slot)) → IfSome (option_map (λ v. v.slot) o) (λ h. IsTrue (is_slot table h))
    go None h = tt
    go (Some v) h = h

-- ===== The keys of a state

pub version-is_held : (store : Store) (rs : List Record) (ks : List StateId) → StoreStands store rs ks → IsTrue (arrive_in_order store.table.entries) →
    (slot : Slot) (x : StateId) → id_at store.table slot ≡ Some x → (k : List ℕ) →
    has_version_at slot (versions_of store.versions k) ≡ holds_key rs ks k x
version-is_held store rs ks stands in_order slot x named k =
    let dag = stands.table.dag in
    let shared = stands.table.shared in
    let kept = slot-is_kept store.table rs ks stands.table slot x named in
    versions-at store rs ks stands in_order slot x named k (versions_of store.versions k) (holders rs ks k) (stands.versions k)
    ∙ same_test (is_among x (holders rs ks k)) (holds_key rs ks k x) (λ m. (holder-parts rs ks dag shared k x m).1)
    (λ h. holder-from rs ks dag shared k x kept h)
