-- The record of a state, put together from what a store holds.
use Rattle.std.proofs.Common.{◌≡◌, ℕ, ◌+◌, ◌<◌, Bool, true, false, eqb, leb, ◌||◌, ◌&&◌, not, List, [], ◌∷◌, ◌++◌, length, map, find, set, take, get_or}
use Rattle.std.proofs.Common.{Option, Some, None, is_some, IsTrue, IsFalse, inl, inr, refl, sym, ap, ap₂, subst, ◌∙◌, if◌then◌else◌, eqb-true, eq-eqb}
use Rattle.std.specs.Prelude.{bytes_eq}
use Rattle.std.specs.List.{list_all}
use Rattle.std.specs.Option.{option_map, option_and_then}
use Rattle.std.proofs.lemmas.Bool.{and_parts, and_from, or_left, or_right, cases_Bool, both_ways, cond-true, cond-false, false_from_ne_true}
use Rattle.std.proofs.lemmas.Option.{none-some, same_Some}
use Rattle.std.proofs.lemmas.List.{map-append, take_more, take_more_set}
use Rattle.std.proofs.lemmas.List.Folds.{list_any-append}
use Rattle.std.proofs.lemmas.Slice.Eq.{bytes_eq-Decides}
use Rattle.tardis_base.specs.declared.ids.StateId.{StateId}
use Rattle.tardis_base.specs.declared.ids.Slot.{Slot}
use Rattle.tardis_base.specs.declared.records.Record.{Record}
use Rattle.tardis_base.specs.declared.records.Write.{Write}
use Rattle.tardis_base.specs.Ids.{root, same_id, is_among}
use Rattle.tardis_base.specs.Keys.{KeyWrite, is_key_before, are_ascending_keys, is_key_among, keys_of, has_key, write_of, with_write}
use Rattle.tardis_base.specs.Valid.{is_id, are_parents, are_writes, is_key, is_write}
use Rattle.tardis_base.proofs.KeyOrder.{cases_key, before-trans, bytes_eq-before}
use Rattle.tardis_base.proofs.WriteSets.{write_of-here, write_of-there, write_of-with_write, write_of-with_write_other, write_of-missing}
use Rattle.plain_dag.specs.States.{is_known, parents_of, arrival, record_at, writes_key, write_at}
use Rattle.plain_dag.specs.Collection.{is_kept}
use Rattle.plain_dag.specs.Dag.{IsDag}
use Rattle.plain_dag.proofs.Ids.{same_test, not-both, same_id-true, same_id_from}
use Rattle.plain_dag.proofs.Histories.{known-before, parents-newest, parents-before}
use Rattle.plain_dag.proofs.Keys.{ascending-parts}
use Rattle.plain_dag.proofs.StandIns.{stands-in-well}
use Rattle.state_dag.specs.Table.{Entry, Table, entry_at, id_at, is_slot, arrive_in_order, is_kept_at, arrival_at}
use Rattle.state_dag.specs.Orders.{arrivals-differ}
use Rattle.state_dag.proofs.Standing.{slots-arrive, slot-is_kept}
use Rattle.version_list.specs.declared.histories.Version.{Version}
use Rattle.version_list.specs.Versions.{Chunks, versions_of, same_slot, is_key_in, has_version_at}
use Rattle.record_store.specs.Store.{Store}
use Rattle.record_store.specs.Stands.{holds_key, shown_version, StoreStands}
use Rattle.record_store.specs.Answers.{StandsAlone, HasReads, read_write, write_found}
use Rattle.state_dag.specs.Table.{is_listed}
use Rattle.record_store.proofs.Holders.{holders, holder-writes, writer-holds, holder-parts, holder-from, read-of_writer}
use Rattle.record_store.proofs.Reading.{read_with}

-- ===== Slots of listed states

-- one more slot
pub slots-step : (name : Slot → Option StateId) (slots : List Slot) (xs : List StateId) (i : ℕ) (slot : Slot) (d : StateId) → i < length slots →
    i < length xs → name slot ≡ Some (get_or xs i d) →
    map name (take i slots) ≡ map (λ y. Some y) (take i xs) → map name (take (i + 1) (set slots i slot)) ≡ map (λ y. Some y) (take (i + 1) xs)
slots-step name slots xs i slot d within among named e =
    let some : StateId → Option StateId = λ y. Some y in
    ap (map name) (take_more_set slots i slot within)
    ∙ (map-append name (take i slots) (slot ∷ [])
    ∙ (ap₂ (λ a b. a ++ b ∷ []) e named
    ∙ sym (ap (map some) (take_more xs i d among) ∙ map-append some (take i xs) (get_or xs i d ∷ []))))

-- a slot that names a state is one
pub named-is_slot : (table : Table) (slot : Slot) (x : StateId) → id_at table slot ≡ Some x → IsTrue (is_slot table slot)
named-is_slot table slot x h = go (entry_at table slot) h
  where
    go : (o : Option Entry) → option_map (λ e. e.id) o ≡ Some x → is_some o ≡ true
    go None e = absurd (none-some x e)
    go (Some e) _ = refl

-- and the state is listed
pub named-is_listed : (table : Table) (slot : Slot) (x : StateId) → id_at table slot ≡ Some x → IsTrue (is_listed table x)
named-is_listed table slot x h = go table.entries h
  where
    go : (es : List Entry) → option_map (λ e. e.id) (find (λ e. eqb e.slot.0 slot.0) es) ≡ Some x → IsTrue (is_among x (map (λ e. e.id) es))
    go [] e = absurd (none-some x e)
    go (f ∷ es) e = elim (cases_Bool (eqb f.slot.0 slot.0)) [
      | inl t ↦
          let same : f.id ≡ x =
          same_Some f.id x
          (sym (ap (option_map (λ (g : Entry). g.id)) (cond-true (eqb f.slot.0 slot.0) (Some f) (find (λ g. eqb g.slot.0 slot.0) es) t)) ∙ e) in
          or_left (same_id x f.id) (is_among x (map (λ g. g.id) es)) (same_id_from x f.id (sym same))
      | inr n ↦
          or_right (same_id x f.id) (is_among x (map (λ g. g.id) es))
          (go es (sym (ap (option_map (λ (g : Entry). g.id)) (cond-false (eqb f.slot.0 slot.0) (Some f) (find (λ g. eqb g.slot.0 slot.0) es) n)) ∙ e))
    ]

-- so are slots that name states
pub named-are_slots : (table : Table) (slots : List Slot) (xs : List StateId) → map (id_at table) slots ≡ map (λ x. Some x) xs →
    IsTrue (list_all (is_slot table) slots)
named-are_slots table [] xs e = refl
named-are_slots table (s ∷ slots) [] e = cc
named-are_slots table (s ∷ slots) (x ∷ xs) e =
    let here : id_at table s ≡ Some x = cc in
    let rest : map (id_at table) slots ≡ map (λ (y : StateId). Some y) xs = cc in
    and_from (is_slot table s) (list_all (is_slot table) slots) (named-is_slot table s x here) (named-are_slots table slots xs rest)

-- ===== Writes, key by key

-- the first key of writes in order stands before all the others
absent-before : (k : List ℕ) (ws : List KeyWrite) (w : KeyWrite) → IsTrue (is_key_before k w.0) → IsTrue (are_ascending_keys (keys_of (w ∷ ws))) →
    write_of k (w ∷ ws) ≡ None
absent-before k [] w before up = write_of-there k w [] (bytes_eq-before k w.0 before)
absent-before k (v ∷ ws) w before up =
    let parts = ascending-parts w.0 (keys_of (v ∷ ws)) up in
    write_of-there k w (v ∷ ws) (bytes_eq-before k w.0 before) ∙ absent-before k ws v (before-trans k w.0 v.0 before parts.0) parts.1

absent-later : (w : KeyWrite) (ws : List KeyWrite) → IsTrue (are_ascending_keys (keys_of (w ∷ ws))) → write_of w.0 ws ≡ None
absent-later w [] up = refl
absent-later w (v ∷ ws) up =
    let parts = ascending-parts w.0 (keys_of (v ∷ ws)) up in
    absent-before w.0 ws v parts.0 parts.1

-- writes in order that write the same are the same
pub same-writes : (vs ws : List KeyWrite) → IsTrue (are_ascending_keys (keys_of vs)) → IsTrue (are_ascending_keys (keys_of ws)) →
    ((k : List ℕ) → write_of k vs ≡ write_of k ws) → vs ≡ ws
same-writes [] [] up up_too same = refl
same-writes [] (w ∷ ws) up up_too same = absurd (none-some w.1 (same w.0 ∙ write_of-here w.0 w ws refl))
same-writes (v ∷ vs) [] up up_too same = absurd (none-some v.1 (sym (same v.0) ∙ write_of-here v.0 v vs refl))
same-writes (v ∷ vs) (w ∷ ws) up up_too same = elim (cases_key v.0 w.0) [
  | inl before ↦ absurd (none-some v.1 (sym (absent-before v.0 ws w before up_too) ∙ (sym (same v.0) ∙ write_of-here v.0 v vs refl)))
  | inr later ↦ elim later [
    | inl after ↦ absurd (none-some w.1 (sym (absent-before w.0 vs v after up) ∙ (same w.0 ∙ write_of-here w.0 w ws refl)))
    | inr e ↦
        let pair : List ℕ → Write → KeyWrite = λ k u. (k, u) in
        let written : v.1 ≡ w.1 = same_Some v.1 w.1 (sym (write_of-here v.0 v vs refl) ∙ (same v.0 ∙ write_of-here v.0 w ws e)) in
        let rest = same-writes vs ws (ascending-parts v.0 (keys_of vs) up).1 (ascending-parts w.0 (keys_of ws) up_too).1 (λ k. rest-same k e) in
        ap₂ (λ u us. u ∷ us) (ap₂ pair e written) rest
  ]
]
  where
    rest-same : (k : List ℕ) → v.0 ≡ w.0 → write_of k vs ≡ write_of k ws
    rest-same k e = elim (cases_Bool (bytes_eq k v.0)) [
      | inl t ↦
          let is : k ≡ v.0 = (bytes_eq-Decides k v.0).0 t in
          ap (λ j. write_of j vs) is ∙ (absent-later v vs up ∙ sym (ap (λ j. write_of j ws) (is ∙ e) ∙ absent-later w ws up_too))
      | inr f ↦
          sym (write_of-there k v vs f) ∙ (same k ∙ write_of-there k w ws (subst (λ j. bytes_eq k j ≡ false) e f))
    ]

module _ (reads : List ℕ → Option Write) (met more : List ℕ → Bool) (key : List ℕ) (ws : List KeyWrite) (has : HasReads reads met ws)
    (adds : (k : List ℕ) → more k ≡ (met k || bytes_eq k key)) where
  is-more : (k : List ℕ) → bytes_eq k key ≡ true → more k ≡ true
  is-more k t = adds k ∙ (ap (λ b. met k || b) t ∙ or_right (met k) true refl)

  is-before : (k : List ℕ) → bytes_eq k key ≡ false → more k ≡ met k
  is-before k f = adds k ∙ (ap (λ b. met k || b) f ∙ none (met k))
    where
      none : (b : Bool) → (b || false) ≡ b
      none true = refl
      none false = refl

  -- one more key, that is written
  pub key-written : (w : Write) → reads key ≡ Some w → HasReads reads more (with_write key w ws)
  key-written w is k = elim (cases_Bool (bytes_eq k key)) [
    | inl t ↦
        let same : k ≡ key = (bytes_eq-Decides k key).0 t in
        ap (λ j. write_of j (with_write key w ws)) same
        ∙ (write_of-with_write key w ws ∙ sym (cond-true (more k) (reads k) None (is-more k t) ∙ (ap reads same ∙ is)))
    | inr f ↦
        write_of-with_write_other k key w ws (λ e. both_ways (bytes_eq k key) f ((bytes_eq-Decides k key).1 e))
        ∙ (has k ∙ ap (λ b. if b then reads k else None) (sym (is-before k f)))
  ]

  -- or isn't
  pub key-absent : reads key ≡ None → HasReads reads more ws
  key-absent is k = elim (cases_Bool (bytes_eq k key)) [
    | inl t ↦
        let none : reads k ≡ None = ap reads ((bytes_eq-Decides k key).0 t) ∙ is in
        has k ∙ (neither (met k) (reads k) none ∙ sym (neither (more k) (reads k) none))
    | inr f ↦ has k ∙ ap (λ b. if b then reads k else None) (sym (is-before k f))
  ]
    where
      neither : (b : Bool) (o : Option Write) → o ≡ None → (if b then o else None) ≡ None
      neither true o e = e
      neither false o e = refl

-- one more of the keys that are walked
pub one-more : (met : List ℕ → Bool) (keys : List (List ℕ)) (i : ℕ) (key : List ℕ) → i < length keys → key ≡ get_or keys i key → (k : List ℕ) →
    (met k || is_key_among k (take (i + 1) keys)) ≡ ((met k || is_key_among k (take i keys)) || bytes_eq k key)
one-more met keys i key within is k =
    ap (λ ks. met k || is_key_among k ks) (take_more keys i key within ∙ ap (λ j. take i keys ++ j ∷ []) (sym is))
    ∙ ap (λ b. met k || b) (list_any-append (bytes_eq k) (take i keys) (key ∷ []))
    ∙ turned (met k) (is_key_among k (take i keys)) (bytes_eq k key)
  where
    turned : (a b c : Bool) → (a || (b || (c || false))) ≡ ((a || b) || c)
    turned true b c = refl
    turned false true c = refl
    turned false false true = refl
    turned false false false = refl

-- one more chunk
pub chunk-more : (done : Chunks) (chunk : List (List ℕ)) (k : List ℕ) → is_key_in k (done ++ chunk ∷ []) ≡ (is_key_in k done || is_key_among k chunk)
chunk-more done chunk k = list_any-append (is_key_among k) done (chunk ∷ []) ∙ ap (λ b. is_key_in k done || b) (none (is_key_among k chunk))
  where
    none : (b : Bool) → (b || false) ≡ b
    none true = refl
    none false = refl

-- ===== Records

-- a known state has a record
pub known-has_record : (rs : List Record) (x : StateId) → IsTrue (is_known rs x) → (r : Record) × (record_at rs x ≡ Some r)
known-has_record [] x h = not-both true refl (sym h)
known-has_record (r ∷ rs) x h = elim (cases_Bool (same_id x r.id)) [
  | inl t ↦ (r, cond-true (same_id x r.id) (Some r) (record_at rs x) t)
  | inr f ↦
      let w = known-has_record rs x (known-before rs r x h f) in
      (w.0, cond-false (same_id x r.id) (Some r) (record_at rs x) f ∙ w.1)
]

-- what the history says of a record's state
pub record IsRecordOf (rs : List Record) (x : StateId) (r : Record) : Type 0 where
  pub id : r.id ≡ x
  pub parents : parents_of rs x ≡ r.parents
  pub ascending : IsTrue (are_ascending_keys (keys_of r.writes))
  pub writes : (k : List ℕ) → IsTrue (has_key k r.writes) → IsTrue (writes_key rs k x)

-- the newest record says it of its state
newest-says : (rs : List Record) (q : Record) (x : StateId) → IsTrue (are_ascending_keys (keys_of q.writes)) → IsTrue (same_id x q.id) → IsRecordOf (q ∷ rs) x q
newest-says rs q x up t = record {
  id = sym (same_id-true x q.id t);
  parents = parents-newest rs q x t;
  ascending = up;
  writes = λ k has. or_left (same_id x q.id && has_key k q.writes) (writes_key rs k x) (and_from (same_id x q.id) (has_key k q.writes) t has);
}

-- and an older one goes on saying it
older-says : (rs : List Record) (q : Record) (x : StateId) (r : Record) → IsFalse (same_id x q.id) → IsRecordOf rs x r → IsRecordOf (q ∷ rs) x r
older-says rs q x r f says = record {
  id = says.id;
  parents = parents-before rs q x f ∙ says.parents;
  ascending = says.ascending;
  writes = λ k has. or_right (same_id x q.id && has_key k q.writes) (writes_key rs k x) (says.writes k has);
}

-- the writes of a history's newest record are in order
newest-ascends : (rs : List Record) (q : Record) → IsDag (q ∷ rs) → IsTrue (are_ascending_keys (keys_of q.writes))
newest-ascends [] q dag = subst (λ (p : Record). IsTrue (are_ascending_keys (keys_of p.writes))) (sym dag) refl
newest-ascends (s ∷ rs) q dag =
    let writes = (and_parts (is_id q.id && not (same_id q.id root) && are_parents q.parents) (are_writes q.writes) dag.0.shape).1 in
    (and_parts (leb (length q.writes) 64 && list_all (λ w. is_key w.0 && is_write w.1) q.writes) (are_ascending_keys (keys_of q.writes)) writes).1

pub record-says : (rs : List Record) → IsDag rs → (x : StateId) (r : Record) → record_at rs x ≡ Some r → IsRecordOf rs x r
record-says [] dag x r e = absurd (dag)
record-says (q ∷ []) dag x r e = elim (cases_Bool (same_id x q.id)) [
  | inl t ↦ subst (λ p. IsRecordOf (q ∷ []) x p) (same_Some q r (sym (cond-true (same_id x q.id) (Some q) None t) ∙ e))
      (newest-says [] q x (newest-ascends [] q dag) t)
  | inr f ↦ absurd (none-some r (sym (cond-false (same_id x q.id) (Some q) None f) ∙ e))
]
record-says (q ∷ s ∷ rs) dag x r e = elim (cases_Bool (same_id x q.id)) [
  | inl t ↦
      subst (λ p. IsRecordOf (q ∷ s ∷ rs) x p) (same_Some q r (sym (cond-true (same_id x q.id) (Some q) (record_at (s ∷ rs) x) t) ∙ e))
      (newest-says (s ∷ rs) q x (newest-ascends (s ∷ rs) q dag) t)
  | inr f ↦ older-says (s ∷ rs) q x r f (record-says (s ∷ rs) dag.1 x r (sym (cond-false (same_id x q.id) (Some q) (record_at (s ∷ rs) x) f) ∙ e))
]

-- ===== The record of a state that stands alone

module _ (store : Store) (rs : List Record) (ks : List StateId) (stands : StoreStands store rs ks) (in_order : IsTrue (arrive_in_order store.table.entries))
    (slot : Slot) (x : StateId) (named : id_at store.table slot ≡ Some x) where
  -- a version is at the slot exactly where it is at the state
  same-place : (s : Slot) (y : StateId) → id_at store.table s ≡ Some y → same_slot s slot ≡ same_id x y
  same-place s y is = same_test (eqb s.0 slot.0) (same_id x y) there back
    where
      kept_at : (z : Slot) (w : StateId) → id_at store.table z ≡ Some w → IsTrue (is_kept_at store.table z)
      kept_at z w here = and_from (is_slot store.table z) (arrive_in_order store.table.entries) (named-is_slot store.table z w here) in_order

      there : IsTrue (eqb s.0 slot.0) → IsTrue (same_id x y)
      there t =
          let numbered : ℕ → Slot = λ n. record { 0 = n } in
          let same : s ≡ slot = ap numbered (eqb-true s.0 slot.0 t) in
          same_id_from x y (same_Some x y (sym named ∙ (ap (id_at store.table) (sym same) ∙ is)))

      back : IsTrue (same_id x y) → IsTrue (eqb s.0 slot.0)
      back t =
          let one = slots-arrive store.table rs ks stands.table s y is in
          let two = slots-arrive store.table rs ks stands.table slot x named in
          let together : arrival_at store.table s ≡ arrival_at store.table slot = one ∙ (ap (arrival rs) (sym (same_id-true x y t)) ∙ sym two) in
          eq-eqb s.0 slot.0 (ap (λ (z : Slot). z.0) (arrivals-differ store.table s slot (kept_at s y is) (kept_at slot x named) together))

  pub versions-at : (k : List ℕ) (vs : List Version) (ys : List StateId) → map (shown_version store.table) vs ≡ map (read_with rs k) ys →
      has_version_at slot vs ≡ is_among x ys
  versions-at k [] [] e = refl
  versions-at k [] (y ∷ ys) e = cc
  versions-at k (v ∷ vs) [] e = cc
  versions-at k (v ∷ vs) (y ∷ ys) e =
      let here : shown_version store.table v ≡ read_with rs k y = cc in
      let rest : map (shown_version store.table) vs ≡ map (read_with rs k) ys = cc in
      ap₂ (λ a b. a || b) (same-place v.slot y (ap (λ (p : Option StateId × Option (StateId × Write)). p.0) here)) (versions-at k vs ys rest)

  module _ (alone : StandsAlone rs ks x) (r : Record) (is : record_at rs x ≡ Some r) where
    kept : IsTrue (is_kept rs ks x)
    kept = slot-is_kept store.table rs ks stands.table slot x named

    known : IsTrue (is_known rs x)
    known = (and_parts (is_known rs x) (not (is_among x ks)) kept).0

    -- its versions are those of the keys that it writes
    version-tells : (k : List ℕ) → has_version_at slot (versions_of store.versions k) ≡ writes_key rs k x
    version-tells k =
        versions-at k (versions_of store.versions k) (holders rs ks k) (stands.versions k)
        ∙ same_test (is_among x (holders rs ks k)) (writes_key rs k x) there back
      where
        there : IsTrue (is_among x (holders rs ks k)) → IsTrue (writes_key rs k x)
        there m =
            let w = holder-writes rs ks stands.table.dag stands.table.shared k x (holder-parts rs ks stands.table.dag stands.table.shared k x m).1 in
            subst (λ z. IsTrue (writes_key rs k z)) (alone w.0 w.1 w.3) w.2

        back : IsTrue (writes_key rs k x) → IsTrue (is_among x (holders rs ks k))
        back h =
            holder-from rs ks stands.table.dag stands.table.shared k x kept
            (subst (λ z. IsTrue (holds_key rs ks k z)) ((stands-in-well rs ks stands.table.dag stands.table.shared).stays x kept)
            (writer-holds rs ks stands.table.dag stands.table.shared k x known h))

    -- what it wrote is what is read there
    reads-are_writes : (k : List ℕ) → (if writes_key rs k x then read_write rs x k else None) ≡ write_of k r.writes
    reads-are_writes k = elim (cases_Bool (writes_key rs k x)) [
      | inl t ↦
          cond-true (writes_key rs k x) (read_write rs x k) None t
          ∙ (ap write_found (read-of_writer rs stands.table.dag k x known t)
          ∙ (unpaired (write_at rs k x) ∙ ap (option_and_then (λ (q : Record). write_of k q.writes)) is))
      | inr f ↦
          cond-false (writes_key rs k x) (read_write rs x k) None f
          ∙ sym (write_of-missing k r.writes (false_from_ne_true (has_key k r.writes)
          (λ h. both_ways (writes_key rs k x) f ((record-says rs stands.table.dag x r is).writes k h))))
    ]
      where
        unpaired : (o : Option Write) → write_found (option_map (λ w. (x, w)) o) ≡ o
        unpaired None = refl
        unpaired (Some w) = refl

    pub writes-are : (met : List ℕ → Bool) (ws : List KeyWrite) → ((k : List ℕ) → met k ≡ has_version_at slot (versions_of store.versions k)) →
        IsTrue (are_ascending_keys (keys_of ws)) → HasReads (read_write rs x) met ws →
        ws ≡ r.writes
    writes-are met ws listed up has =
        same-writes ws r.writes up (record-says rs stands.table.dag x r is).ascending (λ k.
        has k ∙ (ap (λ b. if b then read_write rs x k else None) (listed k ∙ version-tells k) ∙ reads-are_writes k))

-- a record is put together from what is so of its state
pub record-is : (rs : List Record) (ks : List StateId) → IsDag rs → (x : StateId) → IsTrue (is_kept rs ks x) →
    (id : StateId) (parents : List StateId) (writes : List KeyWrite) → id ≡ x → parents ≡ parents_of rs x →
    ((r : Record) → record_at rs x ≡ Some r → writes ≡ r.writes) → record_at rs x ≡ Some (record { id = id; parents = parents; writes = writes })
record-is rs ks dag x kept id parents writes id_is parents_are writes_are =
    let w = known-has_record rs x (and_parts (is_known rs x) (not (is_among x ks)) kept).0 in
    let says = record-says rs dag x w.0 w.1 in
    let with : StateId → List StateId → List KeyWrite → Record = λ i ps ws. record { id = i; parents = ps; writes = ws } in
    w.1 ∙ ap (λ (r : Record). Some r) (sym (ap (λ i. with i parents writes) (id_is ∙ sym says.id)
    ∙ (ap (λ ps. with w.0.id ps writes) (parents_are ∙ says.parents) ∙ ap (with w.0.id w.0.parents) (writes_are w.0 w.1))))
