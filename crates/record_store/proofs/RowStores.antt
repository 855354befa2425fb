-- What a store stands for after a row of states that write nothing.
use Rattle.std.proofs.Common.{◌≡◌, ℕ, ◌+◌, ◌-◌, ◌<◌, Bool, true, false, ◌&&◌, List, [], length, map, replicate, Some, Result, Ok, Err, IsTrue, IfOk, OnOk}
use Rattle.std.proofs.Common.{refl, sym, ap, subst, ◌∙◌, arith}
use Rattle.std.specs.List.{list_all}
use Rattle.std.proofs.lemmas.Bool.{and_from}
use Rattle.std.proofs.lemmas.List.{length-replicate}
use Rattle.tardis_base.specs.declared.ids.StateId.{StateId}
use Rattle.tardis_base.specs.declared.ids.Slot.{Slot}
use Rattle.tardis_base.specs.declared.records.Record.{Record}
use Rattle.tardis_base.specs.Keys.{KeyWrite}
use Rattle.tardis_base.specs.Valid.{are_writes}
use Rattle.plain_dag.specs.States.{is_known}
use Rattle.plain_dag.specs.Writers.{read}
use Rattle.plain_dag.specs.Begin.{last_arrived}
use Rattle.plain_dag.specs.Collection.{stand_in}
use Rattle.plain_dag.specs.Rows.{lengthened, row_left}
use Rattle.state_dag.specs.declared.rows.RowFault.{RowFault}
use Rattle.state_dag.specs.Table.{Table, id_at, is_slot, is_kept_at, arrival_at, arrive_in_order}
use Rattle.state_dag.specs.Stands.{Stands}
use Rattle.state_dag.specs.Rows.{further, AdvancedBy}
use Rattle.version_list.specs.Versions.{Versions, versions_of}
use Rattle.record_store.specs.declared.RecordStore.TheInside.{Inside}
use Rattle.record_store.specs.Store.{Store}
use Rattle.record_store.specs.Held.{seen}
use Rattle.record_store.specs.Stands.{shown_version, StoreStands}
use Rattle.record_store.proofs.Holding.{seen-stands}
use Rattle.record_store.proofs.QuietRows.{Follows, row-follows, versions-then, stand_ins-then, reads-stay, last-at, last-named, last-arrives}

-- ===== A row in the table

-- the records of a row that writes nothing
abbrev pub quiet_row : List Record → ℕ → ℕ → List Record
quiet_row rs site n = lengthened rs site (replicate n [])

abbrev pub quiet_left : List Record → List StateId → ℕ → ℕ → List StateId
quiet_left rs ks site n = row_left rs ks site (replicate n [])

-- what the table says of it
pub record IsRowAt (old new : Table) (site n : ℕ) (slot : Slot) : Type 0 where
  pub known : new.known ≡ old.known + n
  pub stands : (rs : List Record) (ks : List StateId) → Stands old rs ks → Stands new (quiet_row rs site n) (quiet_left rs ks site n)
  pub named : id_at new slot ≡ Some (further old site n)
  pub names : (s : Slot) → (s ≡ slot → ⊥) → id_at new s ≡ id_at old s
  pub arrived : arrival_at new slot ≡ old.known + n - 1
  pub newest : (s : Slot) → (s ≡ slot → ⊥) → IsTrue (is_kept_at old s) → arrival_at old s < arrival_at old slot

all-writes : (n : ℕ) → IsTrue (list_all are_writes (replicate n []))
all-writes ℕ.zero = refl
all-writes (ℕ.suc n) = and_from (are_writes []) (list_all are_writes (replicate n [])) refl (all-writes n)

pub row-at : (old new : Table) (site n : ℕ) (answer : Result Slot RowFault) → AdvancedBy old new site n answer →
    OnOk answer ((rs : List Record) (ks : List StateId) (wss : List (List KeyWrite)) → Stands old rs ks → length wss ≡ n → IsTrue (list_all are_writes wss)
    → Stands new (lengthened rs site wss) (row_left rs ks site wss)) → IfOk answer (λ slot. id_at new slot ≡ Some (further old site n)) →
    IfOk answer (λ slot. (s : Slot) → (s ≡ slot → ⊥) → id_at new s ≡ id_at old s) → IfOk answer (λ slot. arrival_at new slot ≡ old.known + n - 1) →
    IfOk answer (λ slot. (s : Slot) → (s ≡ slot → ⊥) → IsTrue (is_kept_at old s) → arrival_at old s < arrival_at old slot) →
    IfOk answer (λ slot. IsRowAt old new site n slot)
row-at old new site n (Err f) is stands named names arrived newest = tt
row-at old new site n (Ok slot) is stands named names arrived newest = record {
  known = ap (λ (t : Table). t.known) is.1;
  stands = λ rs ks stood. stands rs ks (replicate n []) stood (length-replicate {A = List KeyWrite} n []) (all-writes n);
  named = named;
  names = names;
  arrived = arrived;
  newest = newest;
}

-- ===== The store

module _ (old new : Store) (site n : ℕ) (slot : Slot) (row : IsRowAt old.table new.table site n slot) (in_order : IsTrue (arrive_in_order old.table.entries))
    (rs : List Record) (ks : List StateId) (stands : StoreStands old rs ks) where
  abbrev qs : List Record
  qs = quiet_row rs site n

  abbrev js : List StateId
  js = quiet_left rs ks site n

  stood : Stands new.table qs js
  stood = row.stands rs ks stands.table

  follows : Follows rs ks qs js
  follows = row-follows rs ks stands.table.dag stands.table.shared stands.table.known_collected site n stood.dag

  pub last-was : id_at old.table slot ≡ Some (last_arrived rs)
  last-was = last-at old.table rs ks stands.table slot in_order row.newest

  last-is : id_at new.table slot ≡ Some (last_arrived qs)
  last-is =
      let arrived = row.arrived in
      let known = row.known in
      let all = stood.known in
      let some = last-arrives qs stood.dag in
      last-named new.table qs js stood slot (further old.table site n) row.named (omega (arith, arrived, known, all, some))

  pub store-stands : new.versions ≡ old.versions → StoreStands new qs js
  store-stands same = record {
    table = stood;
    versions = λ k.
        ap (λ (vs : Versions). map (shown_version new.table) (versions_of vs k)) same
        ∙ versions-then old.table new.table rs ks qs js stands.table follows slot last-was last-is row.names k (versions_of old.versions k)
        (stands.versions k);
  }

  pub stand_ins-move : (z : StateId) (s : Slot) → IsTrue (is_known rs z) → id_at old.table s ≡ Some (stand_in rs ks z) → id_at new.table s
      ≡ Some (stand_in qs js z)
  stand_ins-move z s known here =
      stand_ins-then old.table new.table rs ks qs js stands.table follows slot last-was last-is row.names z s known here

  pub same-reads : (z : StateId) (k : List ℕ) → IsTrue (is_known rs z) → read qs k (stand_in qs js z) ≡ read rs k (stand_in rs ks z)
  same-reads z k known = reads-stay old.table new.table rs ks qs js stands.table follows slot last-was last-is row.names k z known

-- ===== The memory

and-with : (x b : Bool) → b ≡ true → (x && b) ≡ x
and-with true b up = up
and-with false b up = refl

module _ (a : Inside) (store : Store) (is : seen a ≡ store) (new : Table) where
  -- where the entries stand in order, kept states are those with a slot
  pub slots-stay : arrive_in_order a.dag.entries ≡ true → arrive_in_order new.entries ≡ true → ((s : Slot) → is_kept_at new s ≡ is_kept_at a.dag s) →
      (s : Slot) → is_slot new s ≡ is_slot store.table s
  slots-stay up up_now kept s =
      sym (and-with (is_slot new s) (arrive_in_order new.entries) up_now)
      ∙ (kept s ∙ (and-with (is_slot a.dag s) (arrive_in_order a.dag.entries) up ∙ ap (λ (t : Store). is_slot t.table s) is))

  pub stands-after : (site n : ℕ) (answer : Result Slot RowFault) → arrive_in_order a.dag.entries ≡ true → IfOk answer (λ slot. IsRowAt a.dag new site n slot) →
      OnOk answer ((rs : List Record) (ks : List StateId) → StoreStands store rs ks
      → StoreStands (record { table = new; versions = a.versions }) (quiet_row rs site n) (quiet_left rs ks site n))
  stands-after site n (Ok slot) up row = λ rs ks stands.
      store-stands (seen a) (record { table = new; versions = a.versions }) site n slot row up rs ks (seen-stands a store is rs ks stands) refl
  stands-after site n (Err f) up row = tt

  pub last-before : (site n : ℕ) (answer : Result Slot RowFault) → arrive_in_order a.dag.entries ≡ true → IfOk answer (λ slot. IsRowAt a.dag new site n slot) →
      IfOk answer (λ slot. (rs : List Record) (ks : List StateId) → StoreStands store rs ks → id_at store.table slot ≡ Some (last_arrived rs))
  last-before site n (Ok slot) up row = λ rs ks stands.
      subst (λ (s : Store). id_at s.table slot ≡ Some (last_arrived rs)) is
      (last-was (seen a) (record { table = new; versions = a.versions }) site n slot row up rs ks (seen-stands a store is rs ks stands))
  last-before site n (Err f) up row = tt

  pub stand_ins-after : (site n : ℕ) (answer : Result Slot RowFault) → arrive_in_order a.dag.entries ≡ true →
      IfOk answer (λ slot. IsRowAt a.dag new site n slot) →
      OnOk answer ((rs : List Record) (ks : List StateId) → StoreStands store rs ks → (z : StateId) (s : Slot) → IsTrue (is_known rs z)
      → id_at store.table s ≡ Some (stand_in rs ks z) → id_at new s ≡ Some (stand_in (quiet_row rs site n) (quiet_left rs ks site n) z))
  stand_ins-after site n (Ok slot) up row = λ rs ks stands z s known here.
      stand_ins-move (seen a) (record { table = new; versions = a.versions }) site n slot row up rs ks (seen-stands a store is rs ks stands) z s known
      (subst (λ (t : Store). id_at t.table s ≡ Some (stand_in rs ks z)) (sym is) here)
  stand_ins-after site n (Err f) up row = tt

  pub reads-after : (site n : ℕ) (answer : Result Slot RowFault) → arrive_in_order a.dag.entries ≡ true →
      IfOk answer (λ slot. IsRowAt a.dag new site n slot) →
      OnOk answer ((rs : List Record) (ks : List StateId) → StoreStands store rs ks → (z : StateId) (k : List ℕ) → IsTrue (is_known rs z)
      → read (quiet_row rs site n) k (stand_in (quiet_row rs site n) (quiet_left rs ks site n) z) ≡ read rs k (stand_in rs ks z))
  reads-after site n (Ok slot) up row = λ rs ks stands z k known.
      same-reads (seen a) (record { table = new; versions = a.versions }) site n slot row up rs ks (seen-stands a store is rs ks stands) z k known
  reads-after site n (Err f) up row = tt
