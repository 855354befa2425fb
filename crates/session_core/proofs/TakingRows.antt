-- A row of states is taken back.
use Rattle.std.proofs.Common.{◌≡◌, ℕ, zero, suc, ◌+◌, ◌-◌, ◌<◌, ◌≤◌, Bool, true, false, ◌==◌, ◌&&◌, List, [], ◌∷◌, length, map, replicate, Option}
use Rattle.std.proofs.Common.{Some, None, Result, Ok, Err, IsTrue, IsFalse, refl, sym, ap, ap₂, subst, ◌∙◌, arith, ◌||◌, ltb, leb, get_or}
use Rattle.std.specs.Prelude.{if◌then◌else◌}
use Rattle.std.specs.List.{All, list_all}
use Rattle.std.specs.Map.{values_of}
use Rattle.std.proofs.lemmas.Bool.{and_parts, and_from, both_ways, false_from_ne_true, eqb-true, eq-eqb, ltb-true, leb-true}
use Rattle.std.proofs.lemmas.Option.{same_Some, none-some, unwrap_or-slice_get}
use Rattle.std.proofs.lemmas.List.{length-map}
use Rattle.std.proofs.lemmas.List.Elements.{All-nil}
use Rattle.tardis_base.specs.declared.faults.NoMemory.{NoMemory as OutOfMemory}
use Rattle.tardis_base.specs.declared.ids.StateId.{StateId}
use Rattle.tardis_base.specs.declared.ids.Slot.{Slot}
use Rattle.tardis_base.specs.declared.records.Record.{Record}
use Rattle.tardis_base.specs.declared.records.Limits.{Limits}
use Rattle.tardis_base.specs.Ids.{root}
use Rattle.plain_dag.specs.States.{is_known, count_of_site}
use Rattle.plain_dag.specs.Begin.{last_arrived}
use Rattle.plain_dag.specs.Collection.{stand_in}
use Rattle.plain_dag.specs.Entries.{entry_of}
use Rattle.plain_dag.specs.Floors.{Floor, Sessions, unpromised, are_unpromised_above}
use Rattle.plain_dag.specs.Rows.{row_left}
use Rattle.plain_dag.proofs.Known.{root-is-known}
use Rattle.state_dag.specs.declared.rows.RowFault.{RowFault}
use Rattle.state_dag.specs.declared.rows.RowFault.TheVariants.{BadSite, Empty, SeqEnd, NoMemory}
use Rattle.state_dag.specs.Table.{Table, id_at, is_slot}
use Rattle.state_dag.specs.Stands.{Stands}
use Rattle.state_dag.specs.Rows.{count_at, further, row_fault, AdvancedBy}
use Rattle.state_dag.proofs.Calls.{counted}
use Rattle.state_dag.proofs.RowSteps.{allowed}
use Rattle.record_store.specs.Store.{Store}
use Rattle.record_store.specs.Stands.{StoreStands}
use Rattle.ceiling_book.specs.declared.parts.OpenSession.{OpenSession}
use Rattle.ceiling_book.specs.Book.{Book, session_of, floors_of, known_floor}
use Rattle.ceiling_book.specs.Places.{PlacesBesideFloors, IsSlotOf, IsAt, HasStandIn, AreSlots, ArePlaced}
use Rattle.ceiling_book.specs.Floors.{KeepsSessions}
use Rattle.ceiling_book.proofs.Entries.{mapped}
use Rattle.merge_txn.specs.declared.Txn.{Txn as Kept}
use Rattle.merge_txn.specs.declared.Txn.TheVariants.{Single, Merge}
use Rattle.plain_site.specs.Site.{Site}
use Rattle.plain_site.proofs.SoundHistories.{count-fits}
use Rattle.plain_rows.specs.Rows.{row_of, with_row, fits_row}
use Rattle.plain_rows.proofs.Fitting.{counts-own, RowFits, fits-parts, fits-from}
use Rattle.plain_rows.proofs.Sound.{rows-keep-sound}
use Rattle.session_core.specs.declared.Parts.TheInside.{Inside}
use Rattle.session_core.specs.Core.{Core}
use Rattle.session_core.specs.Held.{IsHeld}
use Rattle.session_core.specs.Txns.{has_slots}
use Rattle.session_core.specs.Stands.{txn_of, StandsForSite}
use Rattle.session_core.specs.Machine.{SiteStands, opened_with}
use Rattle.site_answers.specs.Told.{UntakenAs}
use Rattle.session_core.specs.Rests.{RowTakenBy, TakesRow}
use Rattle.session_core.proofs.Settings.{opened-same}
use Rattle.session_core.proofs.Standing.{kept-for}

-- ===== The test

-- as many states of the site are counted as there are
count-is : (table : Table) (rs : List Record) (ks : List StateId) → Stands table rs ks → (n : ℕ) → 1 ≤ n → n ≤ table.limits.sites →
    count_at table n ≡ count_of_site rs n
count-is table rs ks stands n some within = unwrap_or-slice_get table.counts (n - 1) 0 ∙ counted table rs ks stands n table.counts 0 refl some within

abbrev numbered : ℕ → ℕ → StateId
numbered n k = record { site = n; sequence = k }

-- the last of a row has the number that counts it
last-of-row : (rs : List Record) (n count : ℕ) → 1 ≤ count → last_arrived (row_of rs n count) ≡ numbered n (count_of_site rs n + count)
last-of-row rs n zero some = absurd (let bad : ⊥ = omega arith in bad)
last-of-row rs n (suc c) some =
    let older = counts-own rs n c in
    let number : count_of_site (row_of rs n c) n + 1 ≡ count_of_site rs n + suc c = omega arith in
    ap (numbered n) number

-- where the first holds, both do if the second does
pub both-hold : (a b told : Bool) → told ≡ b → a ≡ true → told ≡ (a && b)
both-hold a b told is holds = is ∙ sym (ap (λ p. p && b) holds)

pub none-there : {A : Type 0} (xs : List A) → IsTrue (length xs == 0) → xs ≡ []
none-there [] t = refl
none-there (x ∷ xs) t = absurd (let e = eqb-true (length (x ∷ xs)) 0 t in omega arith)

-- no session is kept where none is open
none-kept : (ss : List (ℕ × OpenSession)) → mapped session_of ss ≡ [] → ss ≡ []
none-kept [] e = refl
none-kept (s ∷ ss) e = (cc)

-- nothing is wrong with a row that fits and has a state in it
unfaulted : (table : Table) (n count : ℕ) → 1 ≤ n → n ≤ table.limits.sites → 1 ≤ count → count_at table n + count < 4294967296 →
    ◌≡◌ {A = Option RowFault} (row_fault table n count) None
unfaulted table n count some most states bits =
    let first : (n == 0) ≡ false = false_from_ne_true (n == 0) (λ t. let e = eqb-true n 0 t in let bad : ⊥ = omega arith in bad) in
    let last : ltb table.limits.sites n ≡ false = false_from_ne_true (ltb table.limits.sites n)
    (λ t. let less = ltb-true table.limits.sites n t in let bad : ⊥ = omega arith in bad) in
    let empty : (count == 0) ≡ false = false_from_ne_true (count == 0) (λ t. let e = eqb-true count 0 t in let bad : ⊥ = omega arith in bad) in
    let past : leb 4294967296 (count_at table n + count) ≡ false = false_from_ne_true (leb 4294967296 (count_at table n + count))
    (λ t. let most = leb-true 4294967296 (count_at table n + count) t in let bad : ⊥ = omega arith in bad) in
    steps (n == 0) (ltb table.limits.sites n) (count == 0) (leb 4294967296 (count_at table n + count)) first last empty past
  where
    steps : (a b c d : Bool) → a ≡ false → b ≡ false → c ≡ false → d ≡ false →
        ◌≡◌ {A = Option RowFault} (if a || b then Some BadSite else if c then Some Empty else if d then Some SeqEnd else None) None
    steps false false false false e f g h = refl
    steps true b c d e f g h = (cc)
    steps false true c d e f g h = (cc)
    steps false false true d e f g h = (cc)
    steps false false false true e f g h = (cc)

module _ (core : Core) (site : Site) (n count : ℕ) (both : SiteStands core site) where
  abbrev table : Table
  table = core.store.table

  sites-are : table.limits.sites ≡ site.limits.sites
  sites-are = ap (λ (l : Limits). l.sites) both.0.limits

  fit-unfaulted : RowFits site n count → 1 ≤ count → ◌≡◌ {A = Option RowFault} (row_fault table n count) None
  fit-unfaulted fits some =
      let sites = sites-are in
      let most = fits.most in
      let within : n ≤ table.limits.sites = omega arith in
      let number = count-is table site.dag site.collected both.0.store.table n fits.some within in
      let few = fits.bits in
      unfaulted table n count fits.some within some (omega arith)

  unfaulted-fits : ◌≡◌ {A = Option RowFault} (row_fault table n count) None → site.sessions ≡ [] → IsTrue (are_unpromised_above site.dag site.floors (last_arrived site.dag)) →
      RowFits site n count
  unfaulted-fits none sessions floors =
      let may = allowed table n count none in
      let number = count-is table site.dag site.collected both.0.store.table n may.first may.last in
      let sites = sites-are in
      let last = may.last in
      let few = may.fits in
      record {
        some = may.first;
        most = omega arith;
        bits = omega arith;
        sessions = sessions;
        floors = floors;
      }

  fit-free : RowFits site n count → IsTrue (length site.sessions == 0 && are_unpromised_above site.dag site.floors (last_arrived site.dag))
  fit-free fits =
      and_from (length site.sessions == 0) (are_unpromised_above site.dag site.floors (last_arrived site.dag))
      (eq-eqb (length site.sessions) 0 (ap (λ (ss : Sessions). length ss) fits.sessions)) fits.floors

  -- where it may not arrive it doesn't fit
  pub closed-unfit : false ≡ (length site.sessions == 0 && are_unpromised_above site.dag site.floors (last_arrived site.dag)) → IsFalse (fits_row site n count)
  closed-unfit closed =
      false_from_ne_true (fits_row site n count)
      (λ fit. both_ways (length site.sessions == 0 && are_unpromised_above site.dag site.floors (last_arrived site.dag)) (sym closed) (fit-free (fits-parts site n count fit)))

  faulted-unfit : 1 ≤ count → (fault : RowFault) → row_fault table n count ≡ Some fault → IsFalse (fits_row site n count)
  faulted-unfit some fault is = false_from_ne_true (fits_row site n count)
      (λ fit. none-some fault (sym (fit-unfaulted (fits-parts site n count fit) some) ∙ is))

  same-store : (store : Store) → store ≡ core.store → SiteStands (record core { store = store }) site
  same-store store same = subst (λ z. SiteStands (record core { store = z }) site) (sym same) both

  -- a row that didn't arrive
  pub row-untaken : 1 ≤ count → (store : Store) (fault : RowFault) (result : Result Bool OutOfMemory) → AdvancedBy table store.table n count (Err fault) →
      store ≡ core.store → UntakenAs fault result →
      RowTakenBy (record core { store = store }) n count site result
  row-untaken some store BadSite result is same e =
      subst (RowTakenBy (record core { store = store }) n count site) (sym e) (faulted-unfit some BadSite is.0, same-store store same)
  row-untaken some store Empty result is same e =
      subst (RowTakenBy (record core { store = store }) n count site) (sym e) (faulted-unfit some Empty is.0, same-store store same)
  row-untaken some store SeqEnd result is same e =
      subst (RowTakenBy (record core { store = store }) n count site) (sym e) (faulted-unfit some SeqEnd is.0, same-store store same)
  row-untaken some store NoMemory (Ok answer) is same e = absurd e
  row-untaken some store NoMemory (Err fault) is same e = same-store store same

  -- ===== A row that arrived

  abbrev records : List Record
  records = row_of site.dag n count

  abbrev collected : List StateId
  collected = row_left site.dag site.collected n (replicate count [])

  -- the state at the slot of the last one is the one that arrived last
  pub newest-is : (store : Store) (slot : Slot) (newest : StateId) → ◌≡◌ {A = Option RowFault} (row_fault table n count) None →
      id_at store.table slot ≡ Some (further table n count) → id_at store.table slot ≡ Some newest → newest ≡ last_arrived records
  newest-is store slot newest none named told =
      let may = allowed table n count none in
      same_Some newest (further table n count) (sym told ∙ named)
      ∙ ap (λ k. numbered n (k + count)) (count-is table site.dag site.collected both.0.store.table n may.first may.last)
      ∙ sym (last-of-row site.dag n count may.some)

  pub unfaulted-fit : ◌≡◌ {A = Option RowFault} (row_fault table n count) None → site.sessions ≡ [] →
      IsTrue (are_unpromised_above site.dag site.floors (last_arrived site.dag)) → IsTrue (fits_row site n count)
  unfaulted-fit none sessions floors = fits-from site n count (unfaulted-fits none sessions floors)

  pub row-taken : (store : Store) (book : Book) (newest : StateId) → IsTrue (fits_row site n count) → StoreStands store records collected → store.table.limits ≡ table.limits → newest ≡ last_arrived records → KeepsSessions core.book book →
      floors_of book ≡ map (λ (f : Floor). unpromised newest) (floors_of core.book) → ArePlaced book store.table records collected →
      RowTakenBy (record core { store = store; book = book }) n count site (Ok true)
  row-taken store book newest fit stands limits is rest floors placed = (
    fit,
    (
      record {
        store = stands;
        limits = limits ∙ both.0.limits;
        own = rest.own ∙ both.0.own;
        max_sessions = rest.max_sessions ∙ both.0.max_sessions;
        sessions = ap (mapped session_of) rest.sessions ∙ both.0.sessions;
        floors = floors ∙ ap₂ (λ (x : StateId) (fs : List Floor). map (λ (f : Floor). unpromised x) fs) is both.0.floors;
        placed = placed;
        txns = both.0.txns;
        slots = λ m t e. absurd (no-txn (fits-parts site n count fit).sessions m t e);
        waiting = both.0.waiting;
      },
      rows-keep-sound site n count both.1 fit,
    ),
  )
    where
      no-txn : site.sessions ≡ [] → (m : ℕ) (t : Kept) → entry_of m core.txns ≡ Some t → ⊥
      no-txn none m t e =
          let was = both.1.each_txn m (txn_of t) (kept-for core site both.0 m t e) in
          none-some was.0 (subst (λ (ss : Sessions). entry_of m ss ≡ Some was.0) none was.1)

  -- no session is open, and the root has its place
  pub places-then : (store : Store) → site.sessions ≡ [] →
      ((z : StateId) (s : Slot) → IsTrue (is_known site.dag z) → id_at table s ≡ Some (stand_in site.dag site.collected z) →
      id_at store.table s ≡ Some (stand_in records collected z)) →
      PlacesBesideFloors (IsAt store.table) (HasStandIn store.table records collected) core.book
  places-then store sessions stand_ins =
      let none = none-kept core.book.sessions (both.0.sessions ∙ sessions) in
      record {
        of_root = stand_ins root core.book.root (root-is-known site.dag both.1.dag) both.0.placed.of_root;
        ceilings = subst (λ z. All (λ (s : OpenSession). IsAt store.table s.ceiling) (values_of z)) (sym none)
            (All-nil (λ (s : OpenSession). IsAt store.table s.ceiling));
        last_commits = subst (λ z. All (λ (s : OpenSession). HasStandIn store.table records collected s.last) (values_of z)) (sym none)
            (All-nil (λ (s : OpenSession). HasStandIn store.table records collected s.last));
      }

-- ===== A row of no states

module _ (core : Core) (site : Site) (n : ℕ) (both : SiteStands core site) where
  -- it fits, of one of the sites
  none-fits : 1 ≤ n → n ≤ core.store.table.limits.sites → true ≡ (length site.sessions == 0 && are_unpromised_above site.dag site.floors (last_arrived site.dag)) →
      IsTrue (fits_row site n 0)
  none-fits some within goes =
      let sites = sites-are core site n 0 both in
      let bits = count-fits site.dag both.1.dag n in
      let may = and_parts (length site.sessions == 0) (are_unpromised_above site.dag site.floors (last_arrived site.dag)) (sym goes) in
      fits-from site n 0
      (record {
        some = some;
        most = omega arith;
        bits = omega arith;
        sessions = none-there site.sessions may.0;
        floors = may.1;
      })

  -- and was taken, where the floors are set to the state that arrived last
  pub floors-moved : (book : Book) (slot : Slot) (newest : StateId) → 1 ≤ n → n ≤ core.store.table.limits.sites →
      true ≡ (length site.sessions == 0 && are_unpromised_above site.dag site.floors (last_arrived site.dag)) →
      id_at core.store.table slot ≡ Some (last_arrived site.dag) → id_at core.store.table slot ≡ Some newest → KeepsSessions core.book book →
      floors_of book ≡ map (λ (f : Floor). unpromised newest) (floors_of core.book) →
      (PlacesBesideFloors (IsAt core.store.table) (HasStandIn core.store.table site.dag site.collected) core.book → ArePlaced book core.store.table site.dag site.collected) →
      RowTakenBy (record core { book = book }) n 0 site (Ok true)
  floors-moved book slot newest some within goes last told rest floors placed =
      let fit = none-fits some within goes in
      let is = same_Some newest (last_arrived site.dag) (sym told ∙ last) in
      row-taken core site n 0 both core.store book newest fit both.0.store refl is rest floors
      (placed (places-then core site n 0 both core.store (fits-parts site n 0 fit).sessions (λ z s known at. at)))

-- ===== The memory

module _ (old new : Table) (same : (s : Slot) → is_slot new s ≡ is_slot old s) where
  slots-same : (ss : List Slot) → IsTrue (list_all (is_slot old) ss) → IsTrue (list_all (is_slot new) ss)
  slots-same [] t = refl
  slots-same (s ∷ ss) t =
      let parts = and_parts (is_slot old s) (list_all (is_slot old) ss) t in
      and_from (is_slot new s) (list_all (is_slot new) ss) (same s ∙ parts.0) (slots-same ss parts.1)

  txn-slots : (t : Kept) → IsTrue (has_slots old t) → IsTrue (has_slots new t)
  txn-slots (Single t) h = same t.slot ∙ h
  txn-slots (Merge t) h = slots-same t.slots h

  -- the places of the book are slots as before
  pub places-same : (book : Book) → AreSlots book old → PlacesBesideFloors (IsSlotOf new) (IsSlotOf new) book
  places-same book places = record {
    of_root = same book.root ∙ places.of_root;
    ceilings = λ k d within. same (get_or (values_of book.sessions) k d).ceiling.slot ∙ places.ceilings k d within;
    last_commits = λ k d within. same (get_or (values_of book.sessions) k d).last.slot ∙ places.last_commits k d within;
  }

pub row-held : (a : Inside) (store : Store) (book : Book) → IsHeld a → ((s : Slot) → is_slot store.table s ≡ is_slot a.store.table s) →
    store.table.limits ≡ a.store.table.limits → KeepsSessions a.book book → AreSlots book store.table →
    IsHeld (record a { store = store; book = book })
row-held a store book held same limits rest slots = record {
  places = slots;
  slots = λ m t is. txn-slots a.store.table store.table same t (held.slots m t is);
  floors = length-map book.floors known_floor ∙ rest.sites ∙ sym (length-map a.book.floors known_floor) ∙ held.floors
      ∙ sym (ap (λ (l : Limits). l.sites) limits);
  room = held.room;
}

pub same-held : (a : Inside) (store : Store) → IsHeld a → store ≡ a.store → IsHeld (record a { store = store })
same-held a store held same = subst (λ z. IsHeld (record a { store = z })) (sym same) held

-- ===== The site

module _ (old new : Core) (n count : ℕ) where
  -- what took a row back still stands for a site
  pub row-stands : (result : Result Bool OutOfMemory) → TakesRow old new n count result → StandsForSite old → StandsForSite new
  row-stands (Ok true) took before =
      let now = (took before.site (before.stands, before.sound)).1 in record { site = with_row n count before.site; stands = now.0; sound = now.1 }
  row-stands (Ok false) took before =
      let now = (took before.site (before.stands, before.sound)).1 in record { site = before.site; stands = now.0; sound = now.1 }
  row-stands (Err fault) took before =
      let now = took before.site (before.stands, before.sound) in record { site = before.site; stands = now.0; sound = now.1 }

  pub row-opening : (result : Result Bool OutOfMemory) → TakesRow old new n count result → StandsForSite old → opened_with new ≡ opened_with old
  row-opening (Ok true) took before =
      opened-same old new before.site (with_row n count before.site) before.stands (took before.site (before.stands, before.sound)).1.0 (refl, refl)
  row-opening (Ok false) took before =
      opened-same old new before.site before.site before.stands (took before.site (before.stands, before.sound)).1.0 (refl, refl)
  row-opening (Err fault) took before =
      opened-same old new before.site before.site before.stands (took before.site (before.stands, before.sound)).0 (refl, refl)
