-- A transaction commits.
use Rattle.std.proofs.Common.{◌≡◌, ◌≢◌, ℕ, ◌+◌, ◌≤◌, true, false, ◌==◌, List, [], ◌∷◌, map, filter_map, length, Option, Some, None, Err, IsTrue, IsFalse}
use Rattle.std.proofs.Common.{refl, sym, ap, ap₂, subst, ◌∙◌, arith}
use Rattle.std.specs.Option.{option_map}
use Rattle.std.specs.Prelude.{min}
use Rattle.std.proofs.lemmas.Option.{same_Some}
use Rattle.std.proofs.lemmas.Bool.{and_parts, both_ways, false_from_ne_true, ne_eqb}
use Rattle.tardis_base.specs.declared.faults.AddFault.{AddFault}
use Rattle.tardis_base.specs.declared.faults.AddFault.TheVariants.{Full, PathFull, NoMemory as OutOfMemory}
use Rattle.tardis_base.specs.declared.ids.StateId.{StateId}
use Rattle.tardis_base.specs.declared.ids.Slot.{Slot}
use Rattle.tardis_base.specs.declared.records.Record.{Record}
use Rattle.tardis_base.specs.declared.requests.EndFlags.{EndFlags}
use Rattle.tardis_base.specs.declared.replies.Refusal.{Refusal}
use Rattle.tardis_base.specs.declared.replies.Refusal.TheVariants.{SeqEnd, Branches as AreBranches, Full as IsFull, PathFull as IsPathFull}
use Rattle.tardis_base.specs.declared.replies.Reply.TheVariants.{Refused, Ended, Committed}
use Rattle.tardis_base.specs.Ids.{is_among}
use Rattle.tardis_base.specs.Keys.{KeyWrite, keys_of}
use Rattle.plain_dag.specs.States.{children, count_of_site}
use Rattle.plain_dag.specs.Above.{is_above}
use Rattle.plain_dag.specs.Begin.{is_admitted}
use Rattle.plain_dag.specs.Landing.{landing, guarded, broken}
use Rattle.plain_dag.specs.Entries.{entry_of, changed, without_entry}
use Rattle.plain_dag.specs.Floors.{after_commit, is_closed}
use Rattle.plain_dag.specs.Growth.{growth_refusal}
use Rattle.plain_dag.proofs.Order.{above-reflexive}
use Rattle.state_dag.specs.Table.{Table, id_at}
use Rattle.state_dag.specs.Answers.{KeepsSlots, MayBeAdded}
use Rattle.state_dag.specs.Stands.{Stands}
use Rattle.record_store.specs.Store.{Store}
use Rattle.record_store.specs.Stands.{StoreStands}
use Rattle.record_store.specs.Answers.{AddedIn, MayArrive}
use Rattle.end_rule.specs.declared.Branches.{Branches}
use Rattle.end_rule.specs.Checks.{CheckedAs}
use Rattle.merge_txn.specs.declared.Txn.{Txn as Kept}
use Rattle.merge_txn.specs.declared.Txn.TheVariants.{Single as KeptSingle, Merge as KeptMerge}
use Rattle.merge_txn.specs.Txns.{writes_of as kept_writes}
use Rattle.session_core.specs.Txns.{IsNamed, has_slots}
use Rattle.ceiling_book.specs.Book.{Book, known_floor, sessions_of}
use Rattle.ceiling_book.specs.Places.{AreSlots, ArePlaced}
use Rattle.ceiling_book.specs.Answers.{KeepsRest}
use Rattle.plain_site.specs.Site.{Site, SingleTxn, Txn, Single, own_count, next_id, writes_of, next_record}
use Rattle.plain_site.specs.Sound.{IsSound}
use Rattle.plain_site.specs.Answers.{Answer, refused, refuse_found}
use Rattle.plain_site.specs.Commits.{without_txn_of, growth_refusals, committed, commit_below, commit_at, commit_writes, commit_single}
use Rattle.plain_site.proofs.SoundHistories.{above-closed}
use Rattle.plain_site.proofs.SoundBooks.{own-is_site}
use Rattle.plain_site.proofs.SoundCommits.{MayJoin, own-next, single-joins, admitted-isnt_closed}
use Rattle.plain_site.proofs.RepliesSound.{limits-within}
use Rattle.session_core.specs.declared.Parts.TheInside.{Inside}
use Rattle.session_core.specs.Core.{Core}
use Rattle.session_core.specs.Held.{IsHeld}
use Rattle.session_core.specs.Stands.{CoreStands, txn_of}
use Rattle.session_core.specs.Gives.{IsGiven, Stops}
use Rattle.site_answers.specs.Stops.{add_stop}
use Rattle.session_core.proofs.Answers.{skip, skip-found, stop-found, as-given}
use Rattle.session_core.proofs.Standing.{txn-ended}
use Rattle.session_core.proofs.Growing.{txn-slots-stay, txn-names-stay}
use Rattle.session_core.proofs.Memory.{ended-held}

-- ===== Another store

-- the same table
pub same-table-stands : (core : Core) (site : Site) (store : Store) → CoreStands core site → store.table ≡ core.store.table →
    StoreStands store site.dag site.collected → CoreStands (record core { store = store }) site
same-table-stands core site store stands same store_stands =
    let back : core.store.table ≡ store.table = sym same in
    record {
      store = store_stands;
      limits = ap (λ t. t.limits) same ∙ stands.limits;
      own = stands.own;
      max_sessions = stands.max_sessions;
      sessions = stands.sessions;
      floors = stands.floors;
      placed = subst (λ t. ArePlaced core.book t site.dag site.collected) back stands.placed;
      txns = stands.txns;
      slots = λ n h e. subst (λ t. IsNamed t h) back (stands.slots n h e);
      waiting = stands.waiting;
    }

pub not-added-held : (a : Inside) (store : Store) (es : List (ℕ × Kept)) → IsHeld a → store.table ≡ a.store.table → es ≡ a.txns →
    IsHeld (record a { store = store; txns = es })
not-added-held a store es held same e =
    let back : a.store.table ≡ store.table = sym same in
    subst (λ z. IsHeld (record a { store = store; txns = z })) (sym e)
    (record {
      places = subst (λ t. AreSlots a.book t) back held.places;
      slots = λ m h f. subst (λ t. IsTrue (has_slots t h)) back (held.slots m h f);
      floors = held.floors ∙ ap (λ t. t.limits.sites) back;
      room = held.room;
    })

-- a table that has grown
pub grown-held : (a : Inside) (store : Store) (book : Book) (n : ℕ) (es : List (ℕ × Kept)) → IsHeld a → KeepsSlots a.store.table store.table →
    store.table.limits ≡ a.store.table.limits →
    KeepsRest a.book book → AreSlots book store.table → es ≡ without_entry n a.txns → IsHeld (record a { store = store; book = book; txns = es })
grown-held a store book n es held keeps limits rest slots e =
    ended-held (record a { store = store; book = book })
    (record {
      places = slots;
      slots = λ m h f. txn-slots-stay a.store.table store.table keeps h (held.slots m h f);
      floors = ap (λ fs. length (map known_floor fs)) rest.floors ∙ held.floors ∙ ap (λ l. l.sites) (sym limits);
      room = held.room;
    }) n es e

pub grown-stands : (core : Core) (site : Site) (r : Record) (store : Store) (book : Book) (n : ℕ) (es : List (ℕ × Kept)) → CoreStands core site →
    StoreStands store (r ∷ site.dag) site.collected →
    KeepsSlots core.store.table store.table → store.table.limits ≡ core.store.table.limits → KeepsRest core.book book →
    sessions_of book ≡ changed n (after_commit (r ∷ site.dag) r.id) (sessions_of core.book) → ArePlaced book store.table (r ∷ site.dag) site.collected →
    es ≡ without_entry n core.txns →
    CoreStands (record core { store = store; book = book; txns = es }) (committed site n r).0
grown-stands core site r store book n es stands store_stands keeps limits rest sessions placed e =
    txn-ended (record core { store = store; book = book })
    (record site { dag = r ∷ site.dag; sessions = changed n (after_commit (r ∷ site.dag) r.id) site.sessions })
    (record {
      store = store_stands;
      limits = limits ∙ stands.limits;
      own = rest.own ∙ stands.own;
      max_sessions = rest.max_sessions ∙ stands.max_sessions;
      sessions = sessions ∙ ap (changed n (after_commit (r ∷ site.dag) r.id)) stands.sessions;
      floors = ap (map known_floor) rest.floors ∙ stands.floors;
      placed = placed;
      txns = stands.txns;
      slots = λ m h f. txn-names-stay core.store.table store.table keeps h (stands.slots m h f);
      waiting = stands.waiting;
    }) n es e

-- ===== The plain answers

module _ (site : Site) (n : ℕ) (parents : List StateId) (writes : List KeyWrite) where
  abbrev r : Record
  r = next_record site parents writes

  abbrev growth : Option Refusal
  growth = growth_refusal site.limits site.collected site.dag (next_record site parents writes)

  pub below-commits : (own_count site == 4294967295) ≡ false → ◌≡◌ {A = Option Refusal} growth None → commit_below site n parents writes [] ≡ committed site n r
  below-commits e f =
      skip site (Refused SeqEnd) (growth_refusals site r) (committed site n r) (own_count site == 4294967295) e
      ∙ skip-found site (λ (g : Refusal). g) growth [] (committed site n r) f

  pub below-refuses : (refusal : Refusal) → (own_count site == 4294967295) ≡ false → growth ≡ Some refusal → commit_below site n parents writes []
      ≡ refused site refusal
  below-refuses refusal e f =
      skip site (Refused SeqEnd) (growth_refusals site r) (committed site n r) (own_count site == 4294967295) e
      ∙ stop-found site (λ (g : Refusal). g) growth refusal [] (committed site n r) f

module _ (site : Site) (n : ℕ) (t : SingleTxn) (flags : EndFlags) (k : ℕ) where
  abbrev number : StateId → ℕ
  number x = length (children site.dag x)

  -- the end constraints aren't broken there
  pub passes-on : (x : StateId) → ◌≡◌ {A = Option ℕ} (broken flags k (number x)) None → commit_at site n t flags k x ≡ commit_below site n (x ∷ []) t.writes []
  passes-on x e = ap (λ o. commit_below site n (x ∷ []) t.writes (refuse_found (λ (c : ℕ). AreBranches c x (number x)) o ∷ [])) e

  -- they are
  pub branches-refuse : (x : StateId) (c : ℕ) → ◌≡◌ {A = Option ℕ} (broken flags k (number x)) (Some c) → commit_at site n t flags k x
      ≡ refused site (AreBranches c x (number x))
  branches-refuse x c e = ap (λ o. commit_below site n (x ∷ []) t.writes (refuse_found (λ (d : ℕ). AreBranches d x (number x)) o ∷ [])) e

  pub branches-stop : (x : StateId) (b : Branches) → number x ≤ 4294967295 → CheckedAs x (broken flags k (number x)) (min (number x) 4294967295) (Err b) →
      commit_at site n t flags k x ≡ refused site (AreBranches b.constraint b.state b.children)
  branches-stop x b few (is, state, count) =
      let whole : min (number x) 4294967295 ≡ number x = omega (arith, few) in
      branches-refuse x b.constraint is ∙ ap₂ (λ y m. refused site (AreBranches b.constraint y m)) (sym state) (sym (count ∙ whole))

  pub reads-only : (length t.writes == 0) ≡ true → commit_single site n t flags k ≡ (without_txn_of n site, Ended t.state)
  reads-only e = go t.writes e
    where
      go : (ws : List KeyWrite) → (length ws == 0) ≡ true → (elim ws as (λ v. Answer) [
        | [] ↦ (without_txn_of n site, Ended t.state)
        | w ∷ vs ↦
            commit_writes site n t flags k
      ]) ≡ (without_txn_of n site, Ended t.state)
      go [] e = refl
      go (w ∷ ws) e = absurd (both_ways (length (w ∷ ws) == 0) (ne_eqb (length (w ∷ ws)) 0 (λ z. omega arith)) e)

  pub writes-too : (length t.writes == 0) ≡ false → commit_single site n t flags k ≡ commit_writes site n t flags k
  writes-too e = go t.writes e
    where
      go : (ws : List KeyWrite) → (length ws == 0) ≡ false →
          (elim ws as (λ v. Answer) [ [] ↦ (without_txn_of n site, Ended t.state) | w ∷ vs ↦ commit_writes site n t flags k ]) ≡ commit_writes site n t flags k
      go [] e = absurd (both_ways true e refl)
      go (w ∷ ws) e = refl

-- ===== What soundness gives

module _ (site : Site) (sound : IsSound site) where
  -- nothing below what isn't closed is collected
  pub below-open : (x : StateId) → IsFalse (is_closed site.dag site.floors x) → (y : StateId) → IsTrue (is_above site.dag x y) →
      IsFalse (is_among y site.collected)
  below-open x opened y above =
      false_from_ne_true (is_among y site.collected) (λ among.
      both_ways (is_closed site.dag site.floors x) opened (above-closed site.dag sound.dag site.floors x y above (sound.collected.closed y among)))

  -- what may join may arrive
  pub joined-arrives : (parents : List StateId) (writes : List KeyWrite) → MayJoin site parents writes → own_count site ≢ 4294967295 →
      MayArrive site.limits.sites site.dag site.collected (next_record site parents writes)
  joined-arrives parents writes joins more = record {
    next = own-next site parents writes sound joins more;
    site = (own-is_site site sound).1;
    kept = λ p among. below-open p (joins.free p among) p (above-reflexive site.dag p);
  }

module _ (site : Site) (sound : IsSound site) (n : ℕ) (t : SingleTxn) (found : entry_of n site.txns ≡ Some (Single t)) where
  state-open : IsFalse (is_closed site.dag site.floors t.state)
  state-open =
      let was = sound.each_txn n (Single t) found in
      admitted-isnt_closed site n was.0 t.state sound was.1 (and_parts (is_admitted site.dag was.0.ceiling t.state) true was.2.admitted).0

  pub below-is-kept : (y : StateId) → IsTrue (is_above site.dag t.state y) → IsFalse (is_among y site.collected)
  below-is-kept y above = below-open site sound t.state state-open y above

  pub may-arrive : (flags : EndFlags) → own_count site ≢ 4294967295 →
      MayArrive site.limits.sites site.dag site.collected (next_record site (landing site.dag (guarded flags t.reads (keys_of t.writes)) t.state ∷ []) t.writes)
  may-arrive flags more =
      let was = sound.each_txn n (Single t) found in
      let x = landing site.dag (guarded flags t.reads (keys_of t.writes)) t.state in
      joined-arrives site sound (x ∷ []) t.writes (single-joins site n was.0 t flags was.1 was.2 sound) more

-- a state has few children
pub few-children : (site : Site) → IsSound site → (x : StateId) → length (children site.dag x) ≤ 4294967295
few-children site sound x =
    let few = sound.few_children x in
    let within = (limits-within site.limits sound.limits).kept in
    omega arith

-- ===== What is kept of the transaction

writes-kept : (t : Kept) → kept_writes t ≡ writes_of (txn_of t)
writes-kept (KeptSingle t) = refl
writes-kept (KeptMerge t) = refl

-- what is kept of the session's transaction has written what the transaction has
pub writes-as : (core : Core) (site : Site) → CoreStands core site → (n : ℕ) (t : Txn) → entry_of n site.txns ≡ Some t → (h : Kept) →
    entry_of n core.txns ≡ Some h → kept_writes h ≡ writes_of t
writes-as core site stands n t found h there =
    writes-kept h ∙ ap writes_of (same_Some (txn_of h) t (sym (ap (option_map txn_of) there) ∙ stands.txns n ∙ found))

-- ===== Commit, row by row

-- the next state joins below these, and the session and its transaction follow
pub commit-gives : (core : Core) (site : Site) → CoreStands core site → (n : ℕ) (xs : List StateId) (ws : List KeyWrite) (store : Store) (book : Book)
    (es : List (ℕ × Kept)) (id : StateId) (parents : List StateId) →
    (own_count site == 4294967295) ≡ false → id ≡ next_id site → parents ≡ xs →
    (◌≡◌ {A = Option Refusal} (growth_refusal core.store.table.limits site.collected site.dag (next_record site xs ws)) None)
    × StoreStands store (next_record site xs ws ∷ site.dag) site.collected →
    KeepsSlots core.store.table store.table → store.table.limits ≡ core.store.table.limits → KeepsRest core.book book →
    sessions_of book ≡ changed n (after_commit (next_record site xs ws ∷ site.dag) (next_id site)) (sessions_of core.book) →
    ArePlaced book store.table (next_record site xs ws ∷ site.dag) site.collected → es ≡ without_entry n core.txns →
    IsGiven (CoreStands (record core { store = store; book = book; txns = es })) (commit_below site n xs ws []) (Committed id parents)
commit-gives core site stands n xs ws store book es id parents more named below (room, store_stands) keeps limits rest sessions placed e =
    let r = next_record site xs ws in
    as-given (CoreStands (record core { store = store; book = book; txns = es })) (commit_below site n xs ws []) (committed site n r) (Committed id parents)
    (below-commits site n xs ws more (ap (λ l. growth_refusal l site.collected site.dag r) (sym stands.limits) ∙ room))
    (grown-stands core site r store book n es stands store_stands keeps limits rest sessions placed e, ap₂ Committed named below)

-- it isn't added
pub commit-stops : (core : Core) (site : Site) → CoreStands core site → (n : ℕ) (xs : List StateId) (ws : List KeyWrite) (store : Store) (fault : AddFault)
    → (own_count site == 4294967295) ≡ false →
    AddedIn core.store store site.dag site.collected (next_record site xs ws) (Err fault) → store.table ≡ core.store.table →
    Stops (CoreStands (record core { store = store })) (commit_below site n xs ws []) site (add_stop fault)
commit-stops core site stands n xs ws store fault more added same = go fault added
  where
    refuses : (refusal : Refusal) → growth_refusal core.store.table.limits site.collected site.dag (next_record site xs ws) ≡ Some refusal →
        commit_below site n xs ws [] ≡ refused site refusal
    refuses refusal full = below-refuses site n xs ws refusal more
        (ap (λ l. growth_refusal l site.collected site.dag (next_record site xs ws)) (sym stands.limits) ∙ full)

    go : (f : AddFault) → AddedIn core.store store site.dag site.collected (next_record site xs ws) (Err f) →
        Stops (CoreStands (record core { store = store })) (commit_below site n xs ws []) site (add_stop f)
    go (Full kept) (full, there) = (same-table-stands core site store stands same there, refuses (IsFull kept) full)
    go (PathFull x m) (full, there) = (same-table-stands core site store stands same there, refuses (IsPathFull x m) full)
    go OutOfMemory there = same-table-stands core site store stands same there

-- ===== The next id

-- the own number and the count of the table are those of the site
counted-as : (core : Core) (site : Site) → CoreStands core site → (table : Table) → table ≡ core.store.table → (own count : ℕ) → own ≡ core.book.own →
    ((rs : List Record) (ks : List StateId) → Stands table rs ks → count ≡ count_of_site rs own) → (own ≡ site.own) × (count ≡ own_count site)
counted-as core site stands table same own count is counts =
    let mine = is ∙ stands.own in
    (mine, counts site.dag site.collected (subst (λ t. Stands t site.dag site.collected) (sym same) stands.store.table) ∙ ap (count_of_site site.dag) mine)

-- there is a next id, and its record may be added below the slots
pub record MayCommit (core : Core) (site : Site) (id : StateId) (r : Record) (below : List Slot) : Type 0 where
  pub more : (own_count site == 4294967295) ≡ false
  pub named : id ≡ next_id site
  pub added : MayBeAdded core.store.table site.dag site.collected r below

pub may-commit : (core : Core) (site : Site) → CoreStands core site → (table : Table) → table ≡ core.store.table → (own count : ℕ) → own ≡ core.book.own →
    ((rs : List Record) (ks : List StateId) → Stands table rs ks → count ≡ count_of_site rs own) → ¬ (count ≡ 4294967295) →
    (below : List Slot) (xs : List StateId) (ws : List KeyWrite) → map (id_at core.store.table) below ≡ map (λ x. Some x) xs →
    (own_count site ≢ 4294967295 → MayArrive site.limits.sites site.dag site.collected (next_record site xs ws)) →
    MayCommit core site (record { site = own; sequence = count + 1 }) (next_record site xs ws) below
may-commit core site stands table same own count is counts apart below xs ws named arrives =
    let mine = counted-as core site stands table same own count is counts in
    let may = arrives (λ e. apart (mine.1 ∙ e)) in
    record {
      more = ne_eqb (own_count site) 4294967295 (λ e. apart (mine.1 ∙ e));
      named = ap₂ (λ o q. let x : StateId = record { site = o; sequence = q + 1 } in x) mine.0 mine.1;
      added =
          record {
            next = may.next;
            site = subst (λ l. site.own ≤ l.sites) (sym stands.limits) may.site;
            slots = named;
            kept = may.kept;
          };
    }

-- ===== The parents

-- what all are there
all-there : (xs : List StateId) → filter_map (λ o. o) (map (λ x. Some x) xs) ≡ xs
all-there [] = refl
all-there (x ∷ xs) = ap (λ ys. x ∷ ys) (all-there xs)

-- the parents are the states of the slots
pub told-parents : (table now : Table) → table ≡ now → (below : List Slot) (xs ps : List StateId) → map (id_at table) below ≡ map (λ p. Some p) ps →
    map (id_at now) below ≡ map (λ x. Some x) xs → ps ≡ xs
told-parents table now same below xs ps told named =
    sym (all-there ps) ∙ ap (filter_map (λ o. o)) (sym told ∙ ap (λ t. map (id_at t) below) same ∙ named) ∙ all-there xs
