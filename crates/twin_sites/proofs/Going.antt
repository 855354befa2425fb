-- Why the one of two twins stands for each site that the other stands for, with its own sessions.
use Rattle.std.proofs.Common.{◌≡◌, ◌∙◌, ◌<◌, ◌≤◌, ◌-◌, ℕ, zero, suc, true, false, ◌&&◌, List, [], ◌∷◌, length, map, get_or, slice_get, unwrap_or, Option, Some, None, IsTrue, ◌⊎◌, inl, inr, refl, sym, ap, ap₂, subst, arith}
use Rattle.std.specs.List.{All, list_all}
use Rattle.std.specs.Map.{values_of}
use Rattle.std.specs.Option.{option_map, option_map_or}
use Rattle.std.proofs.lemmas.Bool.{and_parts, and_from, or_cases}
use Rattle.std.proofs.lemmas.List.{length-map}
use Rattle.std.proofs.lemmas.List.Elements.{All-cons, All-head, All-tail}
use Rattle.std.proofs.lemmas.Option.{none-some, same_Some}
use Rattle.tardis_base.specs.declared.ids.StateId.{StateId}
use Rattle.tardis_base.specs.declared.ids.Slot.{Slot}
use Rattle.tardis_base.specs.declared.records.Record.{Record}
use Rattle.tardis_base.specs.declared.records.Limits.{Limits}
use Rattle.tardis_base.specs.Ids.{root, same_id, is_among}
use Rattle.plain_dag.specs.States.{is_known}
use Rattle.plain_dag.specs.Collection.{is_kept, stand_in}
use Rattle.plain_dag.specs.Entries.{entry_of}
use Rattle.plain_dag.specs.Floors.{Session, Sessions, Floor, opening_floor, floor_of, is_above_ceilings}
use Rattle.plain_dag.proofs.Ids.{same_id-true, not-both, among-cases}
use Rattle.plain_dag.proofs.Known.{root-is-known}
use Rattle.state_dag.specs.Table.{Table, id_at}
use Rattle.state_dag.specs.Stands.{Stands}
use Rattle.state_dag.proofs.Standing.{slot-is_kept}
use Rattle.record_store.specs.Stands.{StoreStands}
use Rattle.record_store.specs.Store.{Store}
use Rattle.ceiling_book.specs.declared.parts.OpenSession.{OpenSession}
use Rattle.ceiling_book.specs.declared.parts.KnownFloor.{KnownFloor}
use Rattle.ceiling_book.specs.Book.{known_floor}
use Rattle.ceiling_book.specs.Places.{IsAt, HasStandIn}
use Rattle.ceiling_book.proofs.Growth.{kept-is_stand_in}
use Rattle.merge_txn.specs.declared.Txn.{Txn as Kept}
use Rattle.merge_txn.specs.declared.Txn.TheVariants.{Single as KeptSingle, Merge as KeptMerge}
use Rattle.plain_site.specs.Site.{Site, Txn, read_states, own_floor}
use Rattle.plain_site.specs.Sound.{IsSound, IsSoundTxn, IsSoundRoom, is_sound_session}
use Rattle.plain_site.proofs.SoundEntries.{entry-passes}
use Rattle.plain_site.proofs.SoundBooks.{session-parts, session-from, own-is_site}
use Rattle.session_core.specs.Core.{Core}
use Rattle.session_core.specs.Stands.{CoreStands, txn_of}
use Rattle.session_core.specs.Txns.{IsNamed}
use Rattle.twin_stores.specs.Stores.{AreTwinStores}
use Rattle.twin_stores.proofs.TwinStores.{twin-stores-stand-for-the-same}
use Rattle.twin_sites.specs.Twins.{AreTwinCores, is_last_kept, last_commits_stay, with_sessions_of}
use Rattle.twin_sites.specs.Laws.{TwinsStandWithSessions}
use Rattle.twin_sites.proofs.Rests.{plain_of}
use Rattle.twin_sites.proofs.Alike.{known-there, above-alike, apart-alike, all-known, all-admitted}

-- twins are twins the other way round
turned : (one other : Store) → AreTwinStores one other → AreTwinStores other one
turned one other twins = record {
  tables = record {
    limits = sym twins.tables.limits;
    counts = sym twins.tables.counts;
    known = sym twins.tables.known;
    entries = sym twins.tables.entries;
    paths = sym twins.tables.paths;
  };
  versions = λ k. sym (twins.versions k);
}

-- a last commit that stays is kept at its slot, or is the root
last-cases : (table : Table) (e : OpenSession) → IsTrue (is_last_kept table e) → (id_at table e.last.slot ≡ Some e.last.state) ⊎ (e.last.state ≡ root)
last-cases table e h =
    elim (or_cases (option_map_or (λ x. same_id x e.last.state) (id_at table e.last.slot) false) (same_id e.last.state root) h) [
      | inl here ↦ inl (go (id_at table e.last.slot) here)
      | inr is ↦ inr (same_id-true e.last.state root is)
    ]
  where
    go : (o : Option StateId) → IsTrue (option_map_or (λ x. same_id x e.last.state) o false) → o ≡ Some e.last.state
    go None t = not-both true refl (sym t)
    go (Some x) t = ap (λ y. Some y) (same_id-true x e.last.state t)

-- a mapped option that is there comes of one that is there
mapped-from : (o : Option Kept) (u : Txn) → option_map txn_of o ≡ Some u → (k : Kept) × (o ≡ Some k) × (txn_of k ≡ u)
mapped-from None u e = absurd (none-some u e)
mapped-from (Some k) u e = (k, refl, same_Some (txn_of k) u e)

-- the slot of the floor in this place
floor-slot : (table : Table) (fs : List KnownFloor) (i : ℕ) → i < length fs → ((k : ℕ) (d : KnownFloor) → k < length fs → IsAt table (get_or fs k d).place) →
    (slot : Slot) × (id_at table slot ≡ Some (unwrap_or (slice_get (map known_floor fs) i) opening_floor).state)
floor-slot table [] i lt at = absurd (omega (arith, lt))
floor-slot table (f ∷ fs) zero lt at = (f.place.slot, at zero f lt)
floor-slot table (f ∷ fs) (suc i) lt at = floor-slot table fs i (omega (arith, lt)) (λ k d within. at (suc k) d (omega (arith, within)))

-- each of the states that these slots name
merge-slots : (table : Table) (slots : List Slot) (xs : List StateId) → map (id_at table) slots ≡ map (λ x. Some x) xs → (z : StateId) →
    IsTrue (is_among z xs) → (slot : Slot) × (id_at table slot ≡ Some z)
merge-slots table slots [] same z m = not-both true refl (sym m)
merge-slots table [] (x ∷ xs) same z m = absurd (cc)
merge-slots table (s ∷ slots) (x ∷ xs) same z m =
    let here : id_at table s ≡ Some x = cc in
    let rest : map (id_at table) slots ≡ map (λ y. Some y) xs = cc in
    elim (among-cases z x xs m) [
      | inl is ↦ (s, here ∙ ap (λ y. Some y) (sym is))
      | inr later ↦ merge-slots table slots xs rest z later
    ]

-- each state at which a transaction reads has a slot
read-slots : (table : Table) (k : Kept) → IsNamed table k → (z : StateId) → IsTrue (is_among z (read_states (txn_of k))) →
    (slot : Slot) × (id_at table slot ≡ Some z)
read-slots table (KeptSingle t) named z m = elim (among-cases z t.state [] m) [
  | inl is ↦ (t.slot, named ∙ ap (λ y. Some y) (sym is))
  | inr none ↦ not-both true refl (sym none)
]
read-slots table (KeptMerge t) named z m = merge-slots table t.slots t.states named z m

-- ===== Two histories of one table

module _ (table : Table) (rs : List Record) (ks : List StateId) (rs' : List Record) (ks' : List StateId) (sa : Stands table rs ks)
    (sb : Stands table rs' ks') where
  -- what stays is known in the other history
  last-known : (e : OpenSession) → IsTrue (is_last_kept table e) → IsTrue (is_known rs' e.last.state)
  last-known e stays = elim (last-cases table e stays) [
    | inl named ↦ known-there table rs ks rs' ks' sa sb e.last.state (slot-is_kept table rs ks sa e.last.slot e.last.state named)
    | inr is ↦ subst (λ x. IsTrue (is_known rs' x)) (sym is) (root-is-known rs' sb.dag)
  ]

  -- and what stands in for it there is at its slot
  last-placed : stand_in rs ks root ≡ stand_in rs' ks' root → (e : OpenSession) → IsTrue (is_last_kept table e) → HasStandIn table rs ks e.last →
      HasStandIn table rs' ks' e.last
  last-placed roots e stays near = elim (last-cases table e stays) [
    | inl named ↦
        named ∙ ap (λ x. Some x) (sym (kept-is_stand_in rs' ks' e.last.state (slot-is_kept table rs' ks' sb e.last.slot e.last.state named)))
    | inr is ↦
        near ∙ (ap (λ x. Some (stand_in rs ks x)) is ∙ (ap (λ x. Some x) roots ∙ ap (λ x. Some (stand_in rs' ks' x)) (sym is)))
  ]

  lasts-placed : stand_in rs ks root ≡ stand_in rs' ks' root → (ss : List OpenSession) → IsTrue (list_all (is_last_kept table) ss) →
      All (λ (e : OpenSession). HasStandIn table rs ks e.last) ss → All (λ (e : OpenSession). HasStandIn table rs' ks' e.last) ss
  lasts-placed roots [] stay near = λ k d within. absurd (omega (arith, within))
  lasts-placed roots (e ∷ ss) stay near =
      let parts = and_parts (is_last_kept table e) (list_all (is_last_kept table) ss) stay in
      All-cons (λ (f : OpenSession). HasStandIn table rs' ks' f.last) e ss
      (last-placed roots e parts.0 (All-head (λ (f : OpenSession). HasStandIn table rs ks f.last) e ss near))
      (lasts-placed roots ss parts.1 (All-tail (λ (f : OpenSession). HasStandIn table rs ks f.last) e ss near))

  -- ceilings are kept
  ceiling-kept : (e : ℕ × OpenSession) (es : List (ℕ × OpenSession)) → All (λ (f : OpenSession). IsAt table f.ceiling) (values_of (e ∷ es)) →
      IsTrue (is_kept rs ks e.1.ceiling.state)
  ceiling-kept e es at =
      slot-is_kept table rs ks sa e.1.ceiling.slot e.1.ceiling.state
      (All-head (λ (f : OpenSession). IsAt table f.ceiling) e.1 (values_of es) at)

  later-at : (e : ℕ × OpenSession) (es : List (ℕ × OpenSession)) → All (λ (f : OpenSession). IsAt table f.ceiling) (values_of (e ∷ es)) →
      All (λ (f : OpenSession). IsAt table f.ceiling) (values_of es)
  later-at e es at = All-tail (λ (f : OpenSession). IsAt table f.ceiling) e.1 (values_of es) at

  ceilings-kept : (es : List (ℕ × OpenSession)) → All (λ (f : OpenSession). IsAt table f.ceiling) (values_of es) →
      IsTrue (list_all (λ (d : ℕ × Session). is_kept rs ks d.1.ceiling) (map plain_of es))
  ceilings-kept [] at = refl
  ceilings-kept (e ∷ es) at =
      and_from (is_kept rs ks e.1.ceiling.state) (list_all (λ (d : ℕ × Session). is_kept rs ks d.1.ceiling) (map plain_of es)) (ceiling-kept e es at)
      (ceilings-kept es (later-at e es at))

  -- sessions that are sound in the one history are sound in the other
  sessions-there : (es : List (ℕ × OpenSession)) → All (λ (f : OpenSession). IsAt table f.ceiling) (values_of es) →
      IsTrue (list_all (is_last_kept table) (values_of es)) → IsTrue (list_all (is_sound_session rs) (map plain_of es)) →
      IsTrue (list_all (is_sound_session rs') (map plain_of es))
  sessions-there [] at stay all = refl
  sessions-there (e ∷ es) at stay all =
      let parts = and_parts (is_sound_session rs (plain_of e)) (list_all (is_sound_session rs) (map plain_of es)) all in
      let stays = and_parts (is_last_kept table e.1) (list_all (is_last_kept table) (values_of es)) stay in
      and_from (is_sound_session rs' (plain_of e)) (list_all (is_sound_session rs') (map plain_of es))
      (session-from rs' (plain_of e) (record {
        number = (session-parts rs (plain_of e) parts.0).number;
        ceiling = known-there table rs ks rs' ks' sa sb e.1.ceiling.state (ceiling-kept e es at);
        last = last-known e.1 stays.0;
      }))
      (sessions-there es (later-at e es at) stays.1 parts.1)

  -- a kept state is above the same ceilings
  ceilings-alike : (x : StateId) → IsTrue (is_kept rs ks x) → (es : List (ℕ × OpenSession)) → All (λ (f : OpenSession). IsAt table f.ceiling) (values_of es) →
      is_above_ceilings rs (map plain_of es) x ≡ is_above_ceilings rs' (map plain_of es) x
  ceilings-alike x kept [] at = refl
  ceilings-alike x kept (e ∷ es) at =
      ap₂ (λ a b. a && b) (above-alike table rs ks rs' ks' sa sb x e.1.ceiling.state kept (ceiling-kept e es at))
      (ceilings-alike x kept es (later-at e es at))

  -- a transaction that is sound in the one history is sound in the other
  txn-there : (c : StateId) (u : Txn) → IsTrue (is_kept rs ks c) → ((x : StateId) → IsTrue (is_among x (read_states u)) → IsTrue (is_kept rs ks x)) →
      IsSoundTxn rs c u → IsSoundTxn rs' c u
  txn-there c u kept_c kept was = record {
    shape = was.shape;
    known = all-known table rs ks rs' ks' sa sb (read_states u) kept;
    admitted = sym (all-admitted table rs ks rs' ks' sa sb c (read_states u) kept_c kept) ∙ was.admitted;
    apart = sym (apart-alike table rs ks rs' ks' sa sb (read_states u) kept) ∙ was.apart;
  }

-- ===== The site that goes on

module _ (one other : Core) (s t : Site) (os : CoreStands one s) (sound : IsSound s) (ot : CoreStands other t) (there : IsSound t)
    (twins : AreTwinCores one other) (stay : IsTrue (last_commits_stay one)) where
  abbrev table : Table
  table = one.store.table

  store : StoreStands one.store t.dag t.collected
  store =
      twin-stores-stand-for-the-same other.store one.store t.dag s.dag t.collected s.collected ot.store os.store (turned one.store other.store twins.store)

  limits : s.limits ≡ t.limits
  limits = sym os.limits ∙ (twins.store.tables.limits ∙ ot.limits)

  own : s.own ≡ t.own
  own = sym os.own ∙ (twins.own ∙ ot.own)

  floors : s.floors ≡ t.floors
  floors = sym os.floors ∙ (twins.floors ∙ ot.floors)

  roots : stand_in s.dag s.collected root ≡ stand_in t.dag t.collected root
  roots =
      same_Some (stand_in s.dag s.collected root) (stand_in t.dag t.collected root) (sym os.placed.of_root ∙ (twins.root ∙ ot.placed.of_root))

  pub goes-on : CoreStands one (with_sessions_of s t)
  goes-on = record {
    store = store;
    limits = os.limits ∙ limits;
    own = os.own ∙ own;
    max_sessions = os.max_sessions ∙ ap (λ (l : Limits). l.max_sessions) limits;
    sessions = os.sessions;
    floors = os.floors ∙ floors;
    placed = record {
      of_root = os.placed.of_root ∙ ap (λ x. Some x) roots;
      ceilings = os.placed.ceilings;
      last_commits =
          lasts-placed table s.dag s.collected t.dag t.collected os.store.table store.table roots (values_of one.book.sessions) stay os.placed.last_commits;
      of_floors = os.placed.of_floors;
    };
    txns = os.txns;
    slots = os.slots;
    waiting = os.waiting;
  }

  -- the own floor is kept
  floor-kept : IsTrue (is_kept s.dag s.collected (own_floor s).state)
  floor-kept =
      let range = own-is_site s sound in
      let each = sound.one_floor_each in
      let long = length-map one.book.floors known_floor in
      let same = ap (λ (fs : List Floor). length fs) os.floors in
      let number = os.own in
      let lt : one.book.own - 1 < length one.book.floors = omega (arith, range.0, range.1) in
      let w = floor-slot table one.book.floors (one.book.own - 1) lt (λ k d within. os.placed.of_floors k d within) in
      slot-is_kept table s.dag s.collected os.store.table w.0 (own_floor s).state
      (w.1 ∙ ap (λ (f : Floor). Some f.state) (ap₂ (λ (fs : List Floor) (n : ℕ). floor_of fs n) os.floors os.own))

  under : IsTrue (is_above_ceilings t.dag s.sessions (own_floor (with_sessions_of s t)).state)
  under =
      let same : own_floor s ≡ own_floor (with_sessions_of s t) = ap₂ (λ (fs : List Floor) (n : ℕ). floor_of fs n) floors own in
      let alike : is_above_ceilings s.dag s.sessions (own_floor s).state ≡ is_above_ceilings t.dag s.sessions (own_floor s).state =
      subst (λ (z : Sessions). is_above_ceilings s.dag z (own_floor s).state ≡ is_above_ceilings t.dag z (own_floor s).state) os.sessions
      (ceilings-alike table s.dag s.collected t.dag t.collected os.store.table store.table (own_floor s).state floor-kept one.book.sessions
      os.placed.ceilings) in
      subst (λ (f : Floor). IsTrue (is_above_ceilings t.dag s.sessions f.state)) same (sym alike ∙ sound.under_floor)

  sessions : IsTrue (list_all (is_sound_session t.dag) s.sessions)
  sessions =
      subst (λ (z : Sessions). IsTrue (list_all (is_sound_session t.dag) z)) os.sessions
      (sessions-there table s.dag s.collected t.dag t.collected os.store.table store.table one.book.sessions os.placed.ceilings stay
      (subst (λ (z : Sessions). IsTrue (list_all (is_sound_session s.dag) z)) (sym os.sessions) sound.each_session))

  kept-ceilings : IsTrue (list_all (λ (d : ℕ × Session). is_kept s.dag s.collected d.1.ceiling) s.sessions)
  kept-ceilings =
      subst (λ (z : Sessions). IsTrue (list_all (λ (d : ℕ × Session). is_kept s.dag s.collected d.1.ceiling) z)) os.sessions
      (ceilings-kept table s.dag s.collected t.dag t.collected os.store.table store.table one.book.sessions os.placed.ceilings)

  txns : (n : ℕ) (u : Txn) → entry_of n s.txns ≡ Some u → (d : Session) × (entry_of n s.sessions ≡ Some d) × IsSoundTxn t.dag d.ceiling u
  txns n u e =
      let was = sound.each_txn n u e in
      let kept = mapped-from (entry_of n one.txns) u (os.txns n ∙ e) in
      let ceiling = entry-passes (λ (d : ℕ × Session). is_kept s.dag s.collected d.1.ceiling) n was.0 s.sessions kept-ceilings was.1 in (
        was.0,
        was.1,
        txn-there table s.dag s.collected t.dag t.collected os.store.table store.table was.0.ceiling u ceiling
            (λ x m.
            let w = read-slots table kept.0 (os.slots n kept.0 kept.1) x (subst (λ v. IsTrue (is_among x (read_states v))) (sym kept.2) m) in
            slot-is_kept table s.dag s.collected os.store.table w.0 x w.1)
            was.2,
      )

  room : IsSoundRoom t.limits.sites t.own s.waiting
  room =
      subst (λ (l : Limits). IsSoundRoom l.sites t.own s.waiting) limits (subst (λ n. IsSoundRoom s.limits.sites n s.waiting) own sound.waiting)

  pub sound-on : IsSound (with_sessions_of s t)
  sound-on = record {
    limits = there.limits;
    own = there.own;
    dag = there.dag;
    of_the_sites = there.of_the_sites;
    few_kept = there.few_kept;
    short_paths = there.short_paths;
    few_children = there.few_children;
    few_sessions = subst (λ (l : Limits). length s.sessions ≤ l.max_sessions) limits sound.few_sessions;
    session_numbers = sound.session_numbers;
    each_session = sessions;
    txn_numbers = sound.txn_numbers;
    each_txn = txns;
    one_floor_each = there.one_floor_each;
    each_floor = there.each_floor;
    under_floor = under;
    collected = there.collected;
    collected_once = there.collected_once;
    waiting = room;
  }

pub twins-stand-with-sessions : TwinsStandWithSessions
twins-stand-with-sessions one other s t os ot twins stay =
    (goes-on one other s t os.0 os.1 ot.0 ot.1 twins stay, sound-on one other s t os.0 os.1 ot.0 ot.1 twins stay)
