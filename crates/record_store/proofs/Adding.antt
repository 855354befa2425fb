-- A store that has grown by one state.
use Rattle.std.proofs.Common.{◌≡◌, ℕ, ◌<◌, Bool, true, false, ltb, ◌||◌, ◌&&◌, not, List, [], ◌∷◌, ◌++◌, map, filter, Option, Some, None, is_some, Ok, Err}
use Rattle.std.proofs.Common.{IsTrue, IsFalse, refl, sym, ap, ap₂, subst, ◌∙◌}
use Rattle.std.specs.List.{list_any, list_all}
use Rattle.std.specs.Option.{option_map, option_and_then}
use Rattle.std.proofs.lemmas.Bool.{and_parts, and_from, and_left, and_right, both_ways, cond-true, cond-false, lt-ltb, not-true, false_from_ne_true}
use Rattle.std.proofs.lemmas.List.{map-append}
use Rattle.tardis_base.specs.declared.ids.StateId.{StateId}
use Rattle.tardis_base.specs.declared.ids.Slot.{Slot}
use Rattle.tardis_base.specs.declared.records.Record.{Record}
use Rattle.tardis_base.specs.declared.records.Write.{Write}
use Rattle.tardis_base.specs.declared.faults.AddFault.{AddFault}
use Rattle.tardis_base.specs.declared.faults.AddFault.TheVariants.{Full, PathFull, NoMemory}
use Rattle.tardis_base.specs.Ids.{same_id, is_among}
use Rattle.tardis_base.specs.Keys.{KeyWrite, has_key, write_of}
use Rattle.tardis_base.proofs.WriteSets.{has_key-write_of}
use Rattle.plain_dag.specs.States.{states, is_known, record_at, writes_key}
use Rattle.plain_dag.specs.Writers.{read}
use Rattle.plain_dag.specs.Collection.{kept_states, stand_in}
use Rattle.plain_dag.specs.Dag.{IsNext, IsDag}
use Rattle.plain_dag.specs.Laws.{StandInsAreShared}
use Rattle.plain_dag.proofs.Ids.{same_id_self, same_id_turns, among-first, among-later, any-agrees, any-false-from}
use Rattle.plain_dag.proofs.Histories.{Fits, next-fits, next-is-dag, newest-is-known, known-isnt-newest}
use Rattle.plain_dag.proofs.Growth.{writes-before, writes-newest, old-reads-stay}
use Rattle.plain_dag.proofs.Searches.{filter-agrees, filtered-passes}
use Rattle.plain_dag.proofs.StandIns.{kept-stands-for-itself, stands-in-well}
use Rattle.state_dag.specs.Table.{Table, id_at, is_kept_at, arrival_at}
use Rattle.state_dag.specs.Stands.{Stands}
use Rattle.state_dag.specs.Answers.{MayBeAdded, AddedTo, IsNewSlot, KeepsSlots}
use Rattle.state_dag.proofs.Known.{listed-is_kept, kept-newest, filter-last}
use Rattle.version_list.specs.declared.histories.Version.{Version}
use Rattle.version_list.specs.Versions.{versions_of, version_by, have_come_before, are_in_order}
use Rattle.record_store.specs.Store.{Store}
use Rattle.record_store.specs.Stands.{holds_key, shown_version, StoreStands}
use Rattle.record_store.specs.Answers.{AddedIn, IsSameStore}
use Rattle.record_store.proofs.Holders.{holders, read-of_writer}
use Rattle.record_store.proofs.Reading.{read_with}

-- ===== The order of versions

-- kept states stay kept, and arrived when they did
abbrev pub KeepsArrivals : Table → Table → Type 0
KeepsArrivals old new = (s : Slot) → IsTrue (is_kept_at old s) → IsTrue (is_kept_at new s) × (arrival_at new s ≡ arrival_at old s)

module _ (old new : Table) (keeps : KeepsArrivals old new) where
  in_order-parts : (v : Version) (vs : List Version) → IsTrue (are_in_order (is_kept_at old) (arrival_at old) (v ∷ vs)) →
      IsTrue (is_kept_at old v.slot) × IsTrue (list_all (λ w. ltb (arrival_at old v.slot) (arrival_at old w.slot)) vs)
      × IsTrue (are_in_order (is_kept_at old) (arrival_at old) vs)
  in_order-parts v vs h =
      let kept = is_kept_at old v.slot in
      let later = list_all (λ w. ltb (arrival_at old v.slot) (arrival_at old w.slot)) vs in
      let rest = are_in_order (is_kept_at old) (arrival_at old) vs in
      let outer = and_parts (kept && later) rest h in
      let inner = and_parts kept later outer.0 in
      (inner.0, inner.1, outer.1)

  later-stay : (s : Slot) (vs : List Version) → IsTrue (is_kept_at old s) → IsTrue (are_in_order (is_kept_at old) (arrival_at old) vs) →
      IsTrue (list_all (λ w. ltb (arrival_at old s) (arrival_at old w.slot)) vs) → IsTrue (list_all (λ w. ltb (arrival_at new s) (arrival_at new w.slot)) vs)
  later-stay s [] kept order later = refl
  later-stay s (v ∷ vs) kept order later =
      let parts = in_order-parts v vs order in
      let both = and_parts (ltb (arrival_at old s) (arrival_at old v.slot)) (list_all (λ w. ltb (arrival_at old s) (arrival_at old w.slot)) vs) later in
      and_from (ltb (arrival_at new s) (arrival_at new v.slot)) (list_all (λ w. ltb (arrival_at new s) (arrival_at new w.slot)) vs)
      (ap₂ ltb (keeps s kept).1 (keeps v.slot parts.0).1 ∙ both.0)
      (later-stay s vs kept parts.2 both.1)

  -- the versions of a key stay in order
  pub order-stays : (vs : List Version) → IsTrue (are_in_order (is_kept_at old) (arrival_at old) vs) →
      IsTrue (are_in_order (is_kept_at new) (arrival_at new) vs)
  order-stays [] order = refl
  order-stays (v ∷ vs) order =
      let parts = in_order-parts v vs order in
      let kept = is_kept_at new v.slot in
      let later = list_all (λ w. ltb (arrival_at new v.slot) (arrival_at new w.slot)) vs in
      and_from (kept && later) (are_in_order (is_kept_at new) (arrival_at new) vs)
      (and_from kept later (keeps v.slot parts.0).0 (later-stay v.slot vs parts.0 parts.2 parts.1))
      (order-stays vs parts.2)

  -- and came before a state that arrived after all that were kept
  pub all-came_before : (slot : Slot) → ((s : Slot) → IsTrue (is_kept_at old s) → arrival_at new s < arrival_at new slot) → (vs : List Version) →
      IsTrue (are_in_order (is_kept_at old) (arrival_at old) vs) → IsTrue (have_come_before (arrival_at new) slot vs)
  all-came_before slot newest [] order = refl
  all-came_before slot newest (v ∷ vs) order =
      let parts = in_order-parts v vs order in
      and_from (ltb (arrival_at new v.slot) (arrival_at new slot)) (have_come_before (arrival_at new) slot vs)
      (lt-ltb (arrival_at new v.slot) (arrival_at new slot) (newest v.slot parts.0))
      (all-came_before slot newest vs parts.2)

-- ===== What is written

both-true : (a b c h : Bool) → a ≡ h → b ≡ true → c ≡ false → (a && b || c) ≡ h
both-true a b c h e f g = rw (e, f, g) (go h)
  where
    go : (x : Bool) → (x && true || false) ≡ x
    go true = refl
    go false = refl

module _ (rs : List Record) (ks : List StateId) (r : Record) (dag : IsDag rs) (shared : StandInsAreShared rs ks) (next : IsNext rs r)
    (out : IsFalse (is_among r.id ks)) where
  fits : Fits rs r
  fits = next-fits rs r next

  dag_now : IsDag (r ∷ rs)
  dag_now = next-is-dag rs r dag next

  -- ===== Holders

  -- stand-ins stay
  stand_in-stays : (w : StateId) → IsTrue (is_known rs w) → stand_in (r ∷ rs) ks w ≡ stand_in rs ks w
  stand_in-stays w known =
      let here = stand_in rs ks w in
      let kept = (stands-in-well rs ks dag shared).kept w known in
      cond-false (is_among here ks && is_among here r.parents) r.id here
      (and_left (is_among here ks) (is_among here r.parents) (not-true (is_among here ks) (and_parts (is_known rs here) (not (is_among here ks)) kept).1))

  -- the old states hold what they held
  holds-stays : (k : List ℕ) (x : StateId) → IsTrue (is_known rs x) → holds_key (r ∷ rs) ks k x ≡ holds_key rs ks k x
  holds-stays k x known =
      let test : StateId → Bool = λ w. writes_key (r ∷ rs) k w && same_id (stand_in (r ∷ rs) ks w) x in
      let itself = kept-stands-for-itself ks (r ∷ rs) r.id out in
      let other : same_id (stand_in (r ∷ rs) ks r.id) x ≡ false = ap (λ z. same_id z x) itself ∙ (same_id_turns r.id x ∙ known-isnt-newest rs r x fits known) in
      ap (λ b. b || list_any test (states rs)) (and_right (writes_key (r ∷ rs) k r.id) (same_id (stand_in (r ∷ rs) ks r.id) x) other)
      ∙ any-agrees test (λ w. writes_key rs k w && same_id (stand_in rs ks w) x) (states rs) (λ w m.
      ap₂ (λ a b. a && b) (writes-before rs r k w (known-isnt-newest rs r w fits m)) (ap (λ z. same_id z x) (stand_in-stays w m)))

  -- the new one holds what it writes
  holds-newest : (k : List ℕ) → holds_key (r ∷ rs) ks k r.id ≡ has_key k r.writes
  holds-newest k =
      let test : StateId → Bool = λ w. writes_key (r ∷ rs) k w && same_id (stand_in (r ∷ rs) ks w) r.id in
      both-true (writes_key (r ∷ rs) k r.id) (same_id (stand_in (r ∷ rs) ks r.id) r.id) (list_any test (states rs)) (has_key k r.writes)
      (writes-newest rs r k r.id fits (same_id_self r.id))
      (ap (λ z. same_id z r.id) (kept-stands-for-itself ks (r ∷ rs) r.id out) ∙ same_id_self r.id)
      (any-false-from test (states rs) (λ w m.
      and_right (writes_key (r ∷ rs) k w) (same_id (stand_in (r ∷ rs) ks w) r.id)
      (ap (λ z. same_id z r.id) (stand_in-stays w m)
      ∙ known-isnt-newest rs r (stand_in rs ks w) fits (and_parts (is_known rs (stand_in rs ks w)) (not (is_among (stand_in rs ks w) ks))
      ((stands-in-well rs ks dag shared).kept w m)).0)))

  listed-is_known : (x : StateId) → IsTrue (is_among x (kept_states rs ks)) → IsTrue (is_known rs x)
  listed-is_known x m = (and_parts (is_known rs x) (not (is_among x ks)) (listed-is_kept rs ks x m)).0

  -- the holders are those before, and the new state where it writes the key
  holders-grow : (k : List ℕ) → holders (r ∷ rs) ks k ≡ holders rs ks k ++ filter (holds_key (r ∷ rs) ks k) (r.id ∷ [])
  holders-grow k =
      let test = holds_key (r ∷ rs) ks k in
      ap (filter test) (kept-newest rs ks r out)
      ∙ (filter-last test (kept_states rs ks) r.id
      ∙ ap (λ hs. hs ++ filter test (r.id ∷ [])) (filter-agrees test (holds_key rs ks k) (kept_states rs ks) (λ x m. holds-stays k x (listed-is_known x m))))

  -- ===== Reads

  -- where the new state writes a key, that is read there
  read-newest : (k : List ℕ) (w : Write) → write_of k r.writes ≡ Some w → read (r ∷ rs) k r.id ≡ Some (r.id, w)
  read-newest k w e =
      let has : has_key k r.writes ≡ true = has_key-write_of k r.writes ∙ ap is_some e in
      read-of_writer (r ∷ rs) dag_now k r.id (newest-is-known rs r) (writes-newest rs r k r.id fits (same_id_self r.id) ∙ has)
      ∙ (ap (λ (o : Option Record). option_map (λ (v : Write). (r.id, v)) (option_and_then (λ (q : Record). write_of k q.writes) o))
      (cond-true (same_id r.id r.id) (Some r) (record_at rs r.id) (same_id_self r.id))
      ∙ ap (option_map (λ (v : Write). (r.id, v))) e)

  -- the old versions show what they showed
  shown-stay : (old new : Table) → KeepsSlots old new → (k : List ℕ) (vs : List Version) (ys : List StateId) →
      ((y : StateId) → IsTrue (is_among y ys) → IsTrue (is_known rs y)) → map (shown_version old) vs ≡ map (read_with rs k) ys →
      map (shown_version new) vs ≡ map (read_with (r ∷ rs) k) ys
  shown-stay old new keeps k [] [] known e = refl
  shown-stay old new keeps k [] (y ∷ ys) known e = cc
  shown-stay old new keeps k (v ∷ vs) [] known e = cc
  shown-stay old new keeps k (v ∷ vs) (y ∷ ys) known e =
      let pair : Option StateId → Option (StateId × Write) → Option StateId × Option (StateId × Write) = λ a b. (a, b) in
      let here : shown_version old v ≡ read_with rs k y = cc in
      let rest : map (shown_version old) vs ≡ map (read_with rs k) ys = cc in
      let at = ap (λ (p : Option StateId × Option (StateId × Write)). p.0) here in
      let reads = ap (λ (p : Option StateId × Option (StateId × Write)). p.1) here in
      ap₂ (λ p ps. p ∷ ps) (ap₂ pair (keeps v.slot y at) (reads ∙ sym (old-reads-stay rs r dag next k y (known y (among-first y ys)))))
      (shown-stay old new keeps k vs ys (λ z m. known z (among-later z y ys m)) rest)

  -- the new one shows what the new state writes
  shown-newest : (new : Table) (slot : Slot) → id_at new slot ≡ Some r.id → (k : List ℕ) (o : Option Write) → write_of k r.writes ≡ o →
      map (shown_version new) (version_by slot r.id o) ≡ map (read_with (r ∷ rs) k) (filter (holds_key (r ∷ rs) ks k) (r.id ∷ []))
  shown-newest new slot named k None e =
      let test = holds_key (r ∷ rs) ks k in
      sym (ap (map (read_with (r ∷ rs) k)) (cond-false (test r.id) (r.id ∷ []) [] (holds-newest k ∙ (has_key-write_of k r.writes ∙ ap is_some e))))
  shown-newest new slot named k (Some w) e =
      let test = holds_key (r ∷ rs) ks k in
      let pair : Option StateId → Option (StateId × Write) → Option StateId × Option (StateId × Write) = λ a b. (a, b) in
      ap (λ p. p ∷ []) (ap₂ pair named (sym (read-newest k w e)))
      ∙ sym (ap (map (read_with (r ∷ rs) k)) (cond-true (test r.id) (r.id ∷ []) [] (holds-newest k ∙ (has_key-write_of k r.writes ∙ ap is_some e))))

  -- the versions of the key are those of its holders
  pub versions-grow : (old new : Table) (slot : Slot) → KeepsSlots old new → id_at new slot ≡ Some r.id → (k : List ℕ) (vs : List Version) →
      map (shown_version old) vs ≡ map (read_with rs k) (holders rs ks k) →
      map (shown_version new) (vs ++ version_by slot r.id (write_of k r.writes)) ≡ map (read_with (r ∷ rs) k) (holders (r ∷ rs) ks k)
  versions-grow old new slot keeps named k vs e =
      let hs = holders rs ks k in
      let last = filter (holds_key (r ∷ rs) ks k) (r.id ∷ []) in
      map-append (shown_version new) vs (version_by slot r.id (write_of k r.writes))
      ∙ (ap₂ (λ a b. a ++ b)
      (shown-stay old new keeps k vs hs (λ y m. listed-is_known y (filtered-passes (holds_key rs ks k) (kept_states rs ks) y m).0) e)
      (shown-newest new slot named k (write_of k r.writes) refl)
      ∙ sym (ap (map (read_with (r ∷ rs) k)) (holders-grow k) ∙ map-append (read_with (r ∷ rs) k) hs last))

-- ===== The store

-- where nothing changed it stands for what it stood for
pub same-stands : (old new : Store) (rs : List Record) (ks : List StateId) → StoreStands old rs ks → IsSameStore old new → StoreStands new rs ks
same-stands old new rs ks stands same = record {
  table = subst (λ t. Stands t rs ks) (sym same.table) stands.table;
  versions = λ k. ap₂ (λ (t : Table) (vs : List Version). map (shown_version t) vs) same.table (same.versions k) ∙ stands.versions k;
}

pub added-none : (old new : Store) (rs : List Record) (ks : List StateId) (r : Record) (f : AddFault) → StoreStands old rs ks → IsSameStore old new →
    AddedTo old.table new.table rs ks r (Err f) → AddedIn old new rs ks r (Err f)
added-none old new rs ks r (Full kept) stands same added = (added.0, same-stands old new rs ks stands same)
added-none old new rs ks r (PathFull x n) stands same added = (added.0, same-stands old new rs ks stands same)
added-none old new rs ks r NoMemory stands same added = same-stands old new rs ks stands same

pub added-one : (old new : Store) (rs : List Record) (ks : List StateId) (r : Record) (id : StateId) (writes : List KeyWrite) (parents : List Slot)
    (slot : Slot) → StoreStands old rs ks → r.id ≡ id → r.writes ≡ writes →
    MayBeAdded old.table rs ks r parents → AddedTo old.table new.table rs ks r (Ok slot) → IsNewSlot old.table new.table id slot →
    KeepsSlots old.table new.table →
    ((k : List ℕ) → versions_of new.versions k ≡ versions_of old.versions k ++ version_by slot id (write_of k writes)) → AddedIn old new rs ks r (Ok slot)
added-one old new rs ks r id writes parents slot stands id_is writes_is may added slot_is keeps versions =
    let out = false_from_ne_true (is_among r.id ks) (λ m. both_ways (is_known rs r.id) may.next.new (stands.table.known_collected r.id m)) in (
      added.0,
      record {
        table = added.1;
        versions = λ k.
            ap (map (shown_version new.table)) (versions k ∙ ap₂ (λ (x : StateId) (ws : List KeyWrite). versions_of old.versions k
            ++ version_by slot x (write_of k ws)) (sym id_is) (sym writes_is))
            ∙ versions-grow rs ks r stands.table.dag stands.table.shared may.next out old.table new.table slot keeps
            (slot_is.1 ∙ ap (λ (x : StateId). Some x) (sym id_is)) k (versions_of old.versions k) (stands.versions k);
      },
    )
