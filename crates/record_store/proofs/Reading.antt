-- What is read of the versions that a store holds.
use Rattle.std.proofs.Common.{◌≡◌, ℕ, Bool, true, false, not, ltb, List, [], ◌∷◌, map, filter, Option, Some, None, is_some, IsTrue, inl, inr, refl, sym, ap}
use Rattle.std.proofs.Common.{ap₂, ◌∙◌}
use Rattle.std.specs.Option.{option_map, option_map_or, option_and_then}
use Rattle.std.proofs.lemmas.Bool.{cases_Bool, both_ways, cond-true, cond-false}
use Rattle.std.proofs.lemmas.Option.{same_Some}
use Rattle.tardis_base.specs.declared.ids.StateId.{StateId}
use Rattle.tardis_base.specs.declared.ids.Slot.{Slot}
use Rattle.tardis_base.specs.declared.records.Record.{Record}
use Rattle.tardis_base.specs.declared.records.Write.{Write}
use Rattle.plain_dag.specs.States.{arrival}
use Rattle.plain_dag.specs.Above.{is_above}
use Rattle.plain_dag.specs.Writers.{latest_writer, read}
use Rattle.plain_dag.specs.Landing.{is_news}
use Rattle.plain_dag.specs.Collection.{stand_in}
use Rattle.state_dag.specs.Table.{Entry, Table, entry_at, id_at, is_slot, is_slot_above, arrival_at}
use Rattle.state_dag.specs.Stands.{Stands}
use Rattle.state_dag.proofs.Standing.{slots-tell, slots-arrive, slot-is_kept}
use Rattle.version_list.specs.declared.histories.Version.{Version}
use Rattle.version_list.specs.Versions.{versions_of}
use Rattle.version_list.specs.Reads.{later_of, last_arrived, latest_version, written}
use Rattle.record_store.specs.Store.{Store}
use Rattle.record_store.specs.Stands.{shown_version, StoreStands}
use Rattle.record_store.proofs.Holders.{later_state, last_state, holders, reads-last, news-told}

-- a state with what is read there
abbrev pub read_with : List Record → List ℕ → StateId → Option StateId × Option (StateId × Write)
read_with rs k x = (Some x, read rs k x)

module _ (table : Table) (rs : List Record) (ks : List StateId) (stands : Stands table rs ks) (k : List ℕ) where
  -- the version is at the state
  shown-at : (v : Version) (y : StateId) → shown_version table v ≡ read_with rs k y → id_at table v.slot ≡ Some y
  shown-at v y e = ap (λ (p : Option StateId × Option (StateId × Write)). p.0) e

  -- the later of versions is at the later of their states
  later-shown : (v : Version) (y : StateId) (o : Option Version) (p : Option StateId) → shown_version table v ≡ read_with rs k y →
      option_map (shown_version table) o ≡ option_map (read_with rs k) p →
      shown_version table (later_of (arrival_at table) v o) ≡ read_with rs k (later_state (arrival rs) y p)
  later-shown v y None None e f = e
  later-shown v y None (Some z) e f = cc
  later-shown v y (Some w) None e f = cc
  later-shown v y (Some w) (Some z) e f =
      let g : shown_version table w ≡ read_with rs k z = cc in
      let one = slots-arrive table rs ks stands v.slot y (shown-at v y e) in
      let two = slots-arrive table rs ks stands w.slot z (shown-at w z g) in
      let tests : ltb (arrival_at table v.slot) (arrival_at table w.slot) ≡ ltb (arrival rs y) (arrival rs z) = ap₂ ltb one two in
      elim (cases_Bool (ltb (arrival rs y) (arrival rs z))) [
        | inl t ↦ ap (shown_version table) (cond-true (ltb (arrival_at table v.slot) (arrival_at table w.slot)) w v (tests ∙ t))
            ∙ (g ∙ ap (read_with rs k) (sym (cond-true (ltb (arrival rs y) (arrival rs z)) z y t)))
        | inr n ↦ ap (shown_version table) (cond-false (ltb (arrival_at table v.slot) (arrival_at table w.slot)) w v (tests ∙ n))
            ∙ (e ∙ ap (read_with rs k) (sym (cond-false (ltb (arrival rs y) (arrival rs z)) z y n)))
      ]

  -- the latest version at a slot is that at the last of their states at or above its state
  pub latest-shown : (slot : Slot) (x : StateId) → id_at table slot ≡ Some x → (vs : List Version) (ys : List StateId) → map (shown_version table) vs
      ≡ map (read_with rs k) ys →
      option_map (shown_version table) (latest_version (is_slot_above table) (arrival_at table) vs slot)
      ≡ option_map (read_with rs k) (last_state (arrival rs) (filter (λ y. is_above rs y x) ys))
  latest-shown slot x named [] [] e = refl
  latest-shown slot x named [] (y ∷ ys) e = cc
  latest-shown slot x named (v ∷ vs) [] e = cc
  latest-shown slot x named (v ∷ vs) (y ∷ ys) e =
      let here : shown_version table v ≡ read_with rs k y = cc in
      let rest : map (shown_version table) vs ≡ map (read_with rs k) ys = cc in
      let later = latest-shown slot x named vs ys rest in
      let test = slots-tell table rs ks stands v.slot slot y x (shown-at v y here) named in
      let above : Version → Bool = λ w. is_slot_above table w.slot slot in
      let below : StateId → Bool = λ z. is_above rs z x in
      let fs = filter above vs in
      let gs = filter below ys in
      elim (cases_Bool (below y)) [
        | inl t ↦
            ap (λ ws. option_map (shown_version table) (last_arrived (arrival_at table) ws)) (cond-true (above v) (v ∷ fs) fs (test ∙ t))
            ∙ (ap (λ p. Some p) (later-shown v y (last_arrived (arrival_at table) fs) (last_state (arrival rs) gs) here later)
            ∙ sym (ap (λ zs. option_map (read_with rs k) (last_state (arrival rs) zs)) (cond-true (below y) (y ∷ gs) gs t)))
        | inr n ↦
            ap (λ ws. option_map (shown_version table) (last_arrived (arrival_at table) ws)) (cond-false (above v) (v ∷ fs) fs (test ∙ n))
            ∙ (later ∙ sym (ap (λ zs. option_map (read_with rs k) (last_state (arrival rs) zs)) (cond-false (below y) (y ∷ gs) gs n)))
      ]

-- what was shown is what is read
read-of_shown : (table : Table) (rs : List Record) (k : List ℕ) (o : Option Version) (p : Option StateId) → option_map (shown_version table) o
    ≡ option_map (read_with rs k) p → option_map written o ≡ option_and_then (read rs k) p
read-of_shown table rs k None None e = refl
read-of_shown table rs k None (Some y) e = cc
read-of_shown table rs k (Some v) None e = cc
read-of_shown table rs k (Some v) (Some y) e = ap (λ (p : Option StateId × Option (StateId × Write)). p.1)
    (same_Some (shown_version table v) (read_with rs k y) e)

-- what is found at a kept state is what is read there
pub found-is_read : (store : Store) (rs : List Record) (ks : List StateId) → StoreStands store rs ks → (slot : Slot) (x : StateId) → id_at store.table slot
    ≡ Some x → (k : List ℕ) →
    option_map written (latest_version (is_slot_above store.table) (arrival_at store.table) (versions_of store.versions k) slot) ≡ read rs k x
found-is_read store rs ks stands slot x named k =
    let vs = versions_of store.versions k in
    let hs = holders rs ks k in
    read-of_shown store.table rs k (latest_version (is_slot_above store.table) (arrival_at store.table) vs slot)
    (last_state (arrival rs) (filter (λ y. is_above rs y x) hs))
    (latest-shown store.table rs ks stands.table k slot x named vs hs (stands.versions k))
    ∙ reads-last rs ks stands.table.dag stands.table.shared k x (slot-is_kept store.table rs ks stands.table slot x named)

-- whether the state that holds the key at one isn't at or above the other is whether the key is news
pub holder-is_news : (store : Store) (rs : List Record) (ks : List StateId) → StoreStands store rs ks → (from child : Slot) (x c : StateId) →
    id_at store.table from ≡ Some x → id_at store.table child ≡ Some c → (k : List ℕ) →
    (h : Option StateId) → h ≡ option_map (stand_in rs ks) (latest_writer rs k c) → option_map_or (λ y. not (is_above rs y x)) h false ≡ is_news rs x c k
holder-is_news store rs ks stands from child x c from_is child_is k h is =
    ap (λ o. option_map_or (λ y. not (is_above rs y x)) o false) is
    ∙ news-told rs ks stands.table.dag stands.table.shared k x c
    (slot-is_kept store.table rs ks stands.table from x from_is) (slot-is_kept store.table rs ks stands.table child c child_is)

-- which state is kept at a slot
pub slot-named : (table : Table) (slot : Slot) → IsTrue (is_slot table slot) → (y : StateId) × (id_at table slot ≡ Some y)
slot-named table slot h = go (entry_at table slot) h
  where
    go : (o : Option Entry) → is_some o ≡ true → (y : StateId) × (option_map (λ e. e.id) o ≡ Some y)
    go None e = absurd (both_ways false refl e)
    go (Some e) _ = (e.id, refl)
