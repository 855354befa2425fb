-- What is told stands once a line was taken, or a state has gone.
use Rattle.std.proofs.Common.{◌≡◌, ℕ, ◌+◌, ◌<◌, ◌≤◌, ◌-◌, Bool, true, false, not, ◌==◌, ◌&&◌, ◌||◌, nat_lt, nat_le, List, [], ◌∷◌, replicate, Option, Some, None}
use Rattle.std.proofs.Common.{is_some, Result, Ok, Err, IsTrue, IsFalse, inl, inr, refl, sym, ap, subst, ◌∙◌, arith, ltb, leb}
use Rattle.std.specs.Prelude.{if◌then◌else◌}
use Rattle.std.proofs.lemmas.Bool.{and_parts, and_from, cases_Bool, cond-true, cond-false, both_ways, false_from_ne_true, not-true}
use Rattle.std.proofs.lemmas.Bool.{eqb-true, eq-eqb, ltb-true, leb-true, le-leb, lt-ltb}
use Rattle.std.proofs.lemmas.Option.{none-some, same_Some, unwrap_or-slice_get}
use Rattle.tardis_base.specs.declared.faults.NoMemory.{NoMemory as OutOfMemory}
use Rattle.tardis_base.specs.declared.ids.StateId.{StateId}
use Rattle.tardis_base.specs.declared.ids.Slot.{Slot}
use Rattle.tardis_base.specs.declared.records.Record.{Record}
use Rattle.tardis_base.specs.Ids.{root, same_id, is_among}
use Rattle.tardis_base.specs.Valid.{is_within}
use Rattle.plain_dag.specs.States.{root_record, is_known, count_of_site}
use Rattle.plain_dag.specs.Collection.{is_kept, stand_in, shared_stand_in, is_absorbed}
use Rattle.plain_dag.specs.Laws.{HandsOver}
use Rattle.plain_dag.specs.Rows.{lengthened, row_left}
use Rattle.plain_dag.proofs.Ids.{same_id-true, same_id_self}
use Rattle.plain_dag.proofs.Joining.{hands-over}
use Rattle.plain_dag.proofs.Known.{root-is-known}
use Rattle.state_dag.specs.declared.rows.RowFault.{RowFault}
use Rattle.state_dag.specs.declared.rows.RowFault.TheVariants.{BadSite, Empty, SeqEnd, NoMemory}
use Rattle.state_dag.specs.Table.{Table, id_at, is_slot, is_kept_at, arrive_in_order}
use Rattle.state_dag.specs.Detached.{passed_on}
use Rattle.state_dag.specs.Rows.{count_at, row_fault, AdvancedBy}
use Rattle.state_dag.specs.Stands.{Stands}
use Rattle.state_dag.proofs.Calls.{counted, named-of_slot}
use Rattle.state_dag.proofs.ParentSlots.{slot_from}
use Rattle.state_dag.proofs.RowSteps.{allowed}
use Rattle.state_dag.proofs.Standing.{slot-is_kept}
use Rattle.record_store.specs.Store.{Store}
use Rattle.record_store.specs.Stands.{StoreStands}
use Rattle.record_store.proofs.Collecting.{kept-is_other}
use Rattle.plain_checkpoint.specs.Checkpoints.{Told, untold, Part, ToldLine, ToldGone, with_part, fits_part, fits_line, fits_gone}
use Rattle.plain_checkpoint.specs.Laws.{IsToldWell}
use Rattle.plain_checkpoint.proofs.Sites.{untold-is-told-well, parts-keep-told-well}
use Rattle.site_checkpoint.specs.Loaded.{Loaded}
use Rattle.site_checkpoint.specs.Stands.{LoadedStands, StandsForTold}
use Rattle.site_checkpoint.specs.Takes.{TakenUnder, TakesPart, UntakenAs}

-- ===== Before the first part

-- the store of the root alone stands for what is untold
pub opening-stands : (store : Store) (slot : Slot) → StoreStands store (root_record ∷ []) [] → id_at store.table slot ≡ Some root →
    LoadedStands (record { store = store; root = slot }) untold
opening-stands store slot stands at = record { store = stands; root_at = at; well = untold-is-told-well store.table.limits stands.table.valid }

-- ===== A part that fits

-- what the store stands for with it was told well
pub part-stands : (old : Loaded) (t : Told) (p : Part) (store : Store) (slot : Slot) → LoadedStands old t → IsTrue (fits_part old.store.table.limits t p) →
    store.table.limits ≡ old.store.table.limits → StoreStands store (with_part p t).dag (with_part p t).collected →
    id_at store.table slot ≡ Some (stand_in (with_part p t).dag (with_part p t).collected root) →
    LoadedStands (record { store = store; root = slot }) (with_part p t)
part-stands old t p store slot here fits limits stands at = record {
  store = stands;
  root_at = at;
  well = subst (λ l. IsToldWell l (with_part p t)) (sym limits) (parts-keep-told-well old.store.table.limits t p here.store.table.valid here.well fits);
}

-- where the store is as it was, it stands for what it stood for
pub same-stands : (old : Loaded) (t : Told) (store : Store) → LoadedStands old t → store ≡ old.store → LoadedStands (record { store = store; root = old.root }) t
same-stands old t store here same = subst (λ s. LoadedStands (record { store = s; root = old.root }) t) (sym same) here

-- what took a part, or didn't, still stands for something that was told
pub taken-held : (old new : Loaded) (p : Part) (result : Result Bool OutOfMemory) → TakesPart old new p result → StandsForTold old → StandsForTold new
taken-held old new p (Ok true) takes was = record { told = with_part p was.told; stands = (takes was.told was.stands).1 }
taken-held old new p (Ok false) takes was = record { told = was.told; stands = (takes was.told was.stands).1 }
taken-held old new p (Err fault) takes was = record { told = was.told; stands = takes was.told was.stands }

-- ===== A line

-- as many states of the site are counted as there are
pub count-is : (table : Table) (rs : List Record) (ks : List StateId) → Stands table rs ks → (n : ℕ) → 1 ≤ n → n ≤ table.limits.sites →
    count_at table n ≡ count_of_site rs n
count-is table rs ks stands n some within = unwrap_or-slice_get table.counts (n - 1) 0 ∙ counted table rs ks stands n table.counts 0 refl some within

-- nothing is wrong with a line of some states of one of the sites whose numbers fit
unfaulted : (table : Table) (n count : ℕ) → 1 ≤ n → n ≤ table.limits.sites → 1 ≤ count → count_at table n + count < 4294967296 →
    ◌≡◌ {A = Option RowFault} (row_fault table n count) None
unfaulted table n count some most states bits =
    let first : (n == 0) ≡ false = false_from_ne_true (n == 0) (λ t. let e = eqb-true n 0 t in let bad : ⊥ = omega arith in bad) in
    let last : ltb table.limits.sites n ≡ false = false_from_ne_true (ltb table.limits.sites n)
    (λ t. let less = ltb-true table.limits.sites n t in let bad : ⊥ = omega arith in bad) in
    let empty : (count == 0) ≡ false = false_from_ne_true (count == 0) (λ t. let e = eqb-true count 0 t in let bad : ⊥ = omega arith in bad) in
    let past : leb 4294967296 (count_at table n + count) ≡ false = false_from_ne_true (leb 4294967296 (count_at table n + count))
    (λ t. let most = leb-true 4294967296 (count_at table n + count) t in let bad : ⊥ = omega arith in bad) in
    steps (n == 0) (ltb table.limits.sites n) (count == 0) (leb 4294967296 (count_at table n + count)) first last empty past
  where
    steps : (a b c d : Bool) → a ≡ false → b ≡ false → c ≡ false → d ≡ false →
        ◌≡◌ {A = Option RowFault} (if a || b then Some BadSite else if c then Some Empty else if d then Some SeqEnd else None) None
    steps false false false false e f g h = refl
    steps true b c d e f g h = (cc)
    steps false true c d e f g h = (cc)
    steps false false true d e f g h = (cc)
    steps false false false true e f g h = (cc)

module _ (old : Loaded) (t : Told) (here : LoadedStands old t) (n count : ℕ) where
  abbrev table : Table
  table = old.store.table

  abbrev sites : ℕ
  sites = table.limits.sites

  abbrev of_sites : Bool
  of_sites = is_within 1 sites n

  abbrev fits_bits : Bool
  fits_bits = nat_lt (count_of_site t.dag n + count) 4294967296

  line-fits : ◌≡◌ {A = Option RowFault} (row_fault table n count) None → IsTrue (fits_line table.limits t n count)
  line-fits none =
      let may = allowed table n count none in
      let number = count-is table t.dag t.collected here.store.table n may.first may.last in
      let few = may.fits in
      and_from (of_sites && nat_le 1 count) fits_bits
      (and_from of_sites (nat_le 1 count)
      (and_from (nat_le 1 n) (nat_le n sites) (le-leb 1 n may.first) (le-leb n sites may.last)) (le-leb 1 count may.some))
      (lt-ltb (count_of_site t.dag n + count) 4294967296 (omega arith))

  fits-unfaulted : IsTrue (fits_line table.limits t n count) → ◌≡◌ {A = Option RowFault} (row_fault table n count) None
  fits-unfaulted fits =
      let parts = and_parts (of_sites && nat_le 1 count) fits_bits fits in
      let first = and_parts of_sites (nat_le 1 count) parts.0 in
      let site = and_parts (nat_le 1 n) (nat_le n sites) first.0 in
      let some = leb-true 1 n site.0 in
      let most = leb-true n sites site.1 in
      let number = count-is table t.dag t.collected here.store.table n some most in
      let few = ltb-true (count_of_site t.dag n + count) 4294967296 parts.1 in
      unfaulted table n count some most (leb-true 1 count first.1) (omega arith)

  faulted-unfit : (fault : RowFault) → row_fault table n count ≡ Some fault → IsFalse (fits_line table.limits t n count)
  faulted-unfit fault is = false_from_ne_true (fits_line table.limits t n count) (λ fits. none-some fault (sym (fits-unfaulted fits) ∙ is))

  -- a line that arrived was taken
  pub line-taken : (store : Store) → ◌≡◌ {A = Option RowFault} (row_fault table n count) None → store.table.limits ≡ table.limits →
      StoreStands store (with_part (ToldLine n count) t).dag (with_part (ToldLine n count) t).collected →
      id_at store.table old.root ≡ Some (stand_in (with_part (ToldLine n count) t).dag (with_part (ToldLine n count) t).collected root) →
      TakenUnder table.limits (record { store = store; root = old.root }) t (ToldLine n count) (Ok true)
  line-taken store none limits stands at = (line-fits none, part-stands old t (ToldLine n count) store old.root here (line-fits none) limits stands at)

  -- one that didn't doesn't fit, or there was no memory
  pub line-untaken : (store : Store) (fault : RowFault) (result : Result Bool OutOfMemory) → AdvancedBy table store.table n count (Err fault) →
      store ≡ old.store → UntakenAs fault result → TakenUnder table.limits (record { store = store; root = old.root }) t (ToldLine n count) result
  line-untaken store BadSite result is same e =
      subst (TakenUnder table.limits (record { store = store; root = old.root }) t (ToldLine n count)) (sym e)
      (faulted-unfit BadSite is.0, same-stands old t store here same)
  line-untaken store Empty result is same e =
      subst (TakenUnder table.limits (record { store = store; root = old.root }) t (ToldLine n count)) (sym e)
      (faulted-unfit Empty is.0, same-stands old t store here same)
  line-untaken store SeqEnd result is same e =
      subst (TakenUnder table.limits (record { store = store; root = old.root }) t (ToldLine n count)) (sym e)
      (faulted-unfit SeqEnd is.0, same-stands old t store here same)
  line-untaken store NoMemory (Ok answer) is same e = absurd e
  line-untaken store NoMemory (Err fault) is same e = same-stands old t store here same

-- so a line that arrived is taken by all that the store stood for
pub line-takes : (old : Loaded) (n count : ℕ) (store : Store) → ◌≡◌ {A = Option RowFault} (row_fault old.store.table n count) None →
    store.table.limits ≡ old.store.table.limits →
    ((rs : List Record) (ks : List StateId) → StoreStands old.store rs ks →
    StoreStands store (lengthened rs n (replicate count [])) (row_left rs ks n (replicate count []))) →
    ((rs : List Record) (ks : List StateId) → StoreStands old.store rs ks → (z : StateId) (s : Slot) → IsTrue (is_known rs z) →
    id_at old.store.table s ≡ Some (stand_in rs ks z) →
    id_at store.table s ≡ Some (stand_in (lengthened rs n (replicate count [])) (row_left rs ks n (replicate count [])) z)) →
    TakesPart old (record { store = store; root = old.root }) (ToldLine n count) (Ok true)
line-takes old n count store none limits stands stand_ins = λ t here.
    line-taken old t here n count store none limits (stands t.dag t.collected here.store)
    (stand_ins t.dag t.collected here.store root old.root (root-is-known t.dag here.well.dag) here.root_at)

-- and one that didn't doesn't fit, or there was no memory
pub line-misses : (old : Loaded) (n count : ℕ) (store : Store) (fault : RowFault) (result : Result Bool OutOfMemory) →
    AdvancedBy old.store.table store.table n count (Err fault) → store ≡ old.store → UntakenAs fault result →
    TakesPart old (record { store = store; root = old.root }) (ToldLine n count) result
line-misses old n count store fault result is same e = λ t here. line-untaken old t here n count store fault result is same e

-- ===== A state that goes

module _ (old : Loaded) (t : Told) (here : LoadedStands old t) (x : StateId) (slot : Slot) (named : id_at old.store.table slot ≡ Some x) where
  abbrev ids : Slot → Option StateId
  ids = id_at old.store.table

  kept : IsTrue (is_kept t.dag t.collected x)
  kept = slot-is_kept old.store.table t.dag t.collected here.store.table slot x named

  -- it may go where its children share a stand-in
  pub gone-fits : (s : StateId) → shared_stand_in t.dag t.collected x ≡ Some s → IsTrue (fits_gone t x)
  gone-fits s shared = and_from (is_kept t.dag t.collected x) (is_absorbed t.dag t.collected x) kept (ap is_some shared)

  module _ (s : StateId) (shared : shared_stand_in t.dag t.collected x ≡ Some s) where
    hands : HandsOver t.dag t.collected x s
    hands =
        hands-over t.dag t.collected here.well.dag x s (not-true (is_among x t.collected) (and_parts (is_known t.dag x) (not (is_among x t.collected)) kept).1) shared

    -- the root stands with the heir where it stood with the state, and else where it stood
    pub root-passed : (new : Slot → Option StateId) (heir : Slot) → ((a : Slot) → ids a ≡ Some x → a ≡ slot) → ((a : Slot) → (a ≡ slot → ⊥) → new a ≡ ids a) →
        (heir ≡ slot → ⊥) → ids heir ≡ Some s → new (passed_on slot heir old.root) ≡ Some (stand_in t.dag (x ∷ t.collected) root)
    root-passed new heir only names other at = elim (cases_Bool (old.root.0 == slot.0)) [
      | inl same ↦
          let is : old.root ≡ slot = slot_from old.root slot (eqb-true old.root.0 slot.0 same) in
          let was : stand_in t.dag t.collected root ≡ x = same_Some (stand_in t.dag t.collected root) x (sym here.root_at ∙ (ap ids is ∙ named)) in
          ap new (cond-true (old.root.0 == slot.0) heir old.root same)
          ∙ (names heir other ∙ (at
          ∙ sym (ap (λ z. Some z) (hands.stand_ins root
          ∙ cond-true (same_id (stand_in t.dag t.collected root) x) s (stand_in t.dag t.collected root)
          (subst (λ z. IsTrue (same_id z x)) (sym was) (same_id_self x))))))
      | inr differs ↦
          let apart : old.root ≡ slot → ⊥ = λ e. both_ways (old.root.0 == slot.0) differs (subst (λ z. IsTrue (old.root.0 == z.0)) e (eq-eqb old.root.0 old.root.0 refl)) in
          let stays : IsFalse (same_id (stand_in t.dag t.collected root) x) = false_from_ne_true (same_id (stand_in t.dag t.collected root) x)
          (λ e. apart (only old.root (here.root_at ∙ ap (λ z. Some z) (same_id-true (stand_in t.dag t.collected root) x e)))) in
          ap new (cond-false (old.root.0 == slot.0) heir old.root differs)
          ∙ (names old.root apart ∙ (here.root_at
          ∙ sym (ap (λ z. Some z) (hands.stand_ins root
          ∙ cond-false (same_id (stand_in t.dag t.collected root) x) s (stand_in t.dag t.collected root) stays))))
    ]

    -- a state that went was taken
    pub gone-taken : (store : Store) (at : Slot) → store.table.limits ≡ old.store.table.limits → StoreStands store t.dag (x ∷ t.collected) →
        id_at store.table at ≡ Some (stand_in t.dag (x ∷ t.collected) root) →
        TakenUnder old.store.table.limits (record { store = store; root = at }) t (ToldGone x) (Ok true)
    gone-taken store at limits stands is = (gone-fits s shared, part-stands old t (ToldGone x) store at here (gone-fits s shared) limits stands is)

-- so a state that went is taken by all that the store stood for
pub gone-takes : (old : Loaded) (x : StateId) (slot heir : Slot) (store : Store) → id_at old.store.table slot ≡ Some x →
    ((a : Slot) → id_at old.store.table a ≡ Some x → a ≡ slot) → store.table.limits ≡ old.store.table.limits →
    ((rs : List Record) (ks : List StateId) → StoreStands old.store rs ks → (y : StateId) → id_at old.store.table slot ≡ Some y → StoreStands store rs (y ∷ ks)) →
    ((rs : List Record) (ks : List StateId) → StoreStands old.store rs ks → (y : StateId) → id_at old.store.table slot ≡ Some y →
    id_at old.store.table heir ≡ shared_stand_in rs ks y) →
    id_at store.table slot ≡ None → ((a : Slot) → (a ≡ slot → ⊥) → id_at store.table a ≡ id_at old.store.table a) →
    ((a : Slot) → (a ≡ slot → ⊥) → is_slot store.table a ≡ is_slot old.store.table a) → IsTrue (is_kept_at store.table heir) →
    TakesPart old (record { store = store; root = passed_on slot heir old.root }) (ToldGone x) (Ok true)
gone-takes old x slot heir store named only limits collected shared gone names others stays = λ t here.
    let other = kept-is_other store.table slot gone heir stays in
    let slot_stays : IsTrue (is_slot store.table heir) = (and_parts (is_slot store.table heir) (arrive_in_order store.table.entries) stays).0 in
    let there = named-of_slot old.store.table heir (sym (others heir other) ∙ slot_stays) in
    let is : shared_stand_in t.dag t.collected x ≡ Some there.0 = sym (shared t.dag t.collected here.store x named) ∙ there.1 in
    gone-taken old t here x slot named there.0 is store (passed_on slot heir old.root) limits (collected t.dag t.collected here.store x named)
    (root-passed old t here x slot named there.0 is (id_at store.table) heir only names other there.1)
