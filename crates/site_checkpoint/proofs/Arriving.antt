-- What is told stands once a record was added.
use Rattle.std.proofs.Common.{◌≡◌, ◌+◌, Bool, true, not, ◌==◌, ◌&&◌, nat_le, List, ◌∷◌, map, Some, is_none, Result, Ok, Err}
use Rattle.std.proofs.Common.{IsTrue, IsFalse, refl, sym, ap, subst, ◌∙◌}
use Rattle.std.specs.List.{list_all}
use Rattle.std.proofs.lemmas.Bool.{and_parts, and_from, and_left, and_right, not-true, eqb-true, leb-true}
use Rattle.tardis_base.specs.declared.faults.AddFault.{AddFault}
use Rattle.tardis_base.specs.declared.faults.AddFault.TheVariants.{Full, PathFull, NoMemory}
use Rattle.tardis_base.specs.declared.faults.NoMemory.{NoMemory as OutOfMemory}
use Rattle.tardis_base.specs.declared.ids.StateId.{StateId}
use Rattle.tardis_base.specs.declared.ids.Slot.{Slot}
use Rattle.tardis_base.specs.declared.records.Record.{Record}
use Rattle.tardis_base.specs.declared.records.Limits.{Limits}
use Rattle.tardis_base.specs.declared.replies.Refusal.{Refusal}
use Rattle.tardis_base.specs.Ids.{root, is_among}
use Rattle.tardis_base.specs.Valid.{is_within, is_record}
use Rattle.plain_dag.specs.States.{is_known, count_of_site}
use Rattle.plain_dag.specs.Above.{are_apart}
use Rattle.plain_dag.specs.Conflicts.{open_conflict}
use Rattle.plain_dag.specs.Dag.{IsNext}
use Rattle.plain_dag.specs.Collection.{is_kept, stand_in}
use Rattle.plain_dag.specs.Growth.{growth_refusal}
use Rattle.plain_dag.specs.Laws.{StandsInWell}
use Rattle.plain_dag.proofs.Ids.{all-at}
use Rattle.plain_dag.proofs.Known.{root-is-known}
use Rattle.plain_dag.proofs.StandIns.{stays-put, stands-in-well}
use Rattle.plain_site.proofs.SoundCommits.{conflicts-written}
use Rattle.plain_site.proofs.SoundEntries.{all-implies}
use Rattle.plain_site.proofs.SoundHistories.{next-is_new}
use Rattle.state_dag.specs.Table.{Table, id_at}
use Rattle.state_dag.specs.Answers.{MayBeAdded, KeepsSlots}
use Rattle.record_store.specs.Store.{Store}
use Rattle.record_store.specs.Stands.{StoreStands}
use Rattle.record_store.specs.Answers.{AddedIn, IsSameStore}
use Rattle.plain_checkpoint.specs.Checkpoints.{Told, ToldState, takes_child, fits_state}
use Rattle.plain_checkpoint.specs.Laws.{IsToldWell}
use Rattle.plain_checkpoint.proofs.Arrived.{none-from}
use Rattle.site_checkpoint.specs.Loaded.{Loaded}
use Rattle.site_checkpoint.specs.Stands.{LoadedStands}
use Rattle.site_checkpoint.specs.Takes.{TakenUnder, TakesPart}
use Rattle.site_checkpoint.specs.Arrivals.{is_next_of, fits_below, is_welcome, IsWelcomeTo, UnaddedAs}
use Rattle.site_checkpoint.proofs.Parts.{part-stands}

-- ===== What is asked of a record

-- the parts of a welcome
pub record Welcome (limits : Limits) (t : Told) (r : Record) : Type 0 where
  pub shape : IsTrue (is_record r)
  pub next : IsTrue (is_next_of limits.sites t.dag r.id)
  pub kept : IsTrue (list_all (is_kept t.dag t.collected) r.parents)
  pub below : IsTrue (fits_below limits t r)

module _ (limits : Limits) (t : Told) (r : Record) where
  abbrev shape : Bool
  shape = is_record r

  abbrev site : Bool
  site = is_within 1 limits.sites r.id.site

  abbrev sequence : Bool
  sequence = r.id.sequence == count_of_site t.dag r.id.site + 1

  abbrev kept : Bool
  kept = list_all (is_kept t.dag t.collected) r.parents

  abbrev apart : Bool
  apart = are_apart t.dag r.parents

  abbrev room : Bool
  room = list_all (takes_child limits t) r.parents

  abbrev merges : Bool
  merges = is_none (open_conflict t.dag r.parents r.writes)

  welcome-parts : IsTrue (is_welcome limits t r) → Welcome limits t r
  welcome-parts h =
      let seventh = and_parts (shape && site && sequence && kept && apart && room) merges h in
      let sixth = and_parts (shape && site && sequence && kept && apart) room seventh.0 in
      let fifth = and_parts (shape && site && sequence && kept) apart sixth.0 in
      let fourth = and_parts (shape && site && sequence) kept fifth.0 in
      let third = and_parts (shape && site) sequence fourth.0 in
      let first = and_parts shape site third.0 in
      record {
        shape = first.0;
        next = and_from site sequence first.1 third.1;
        kept = fourth.1;
        below = and_from (apart && room) merges (and_from apart room fifth.1 sixth.1) seventh.1;
      }

-- ===== A record that is welcome

module _ (old : Loaded) (t : Told) (here : LoadedStands old t) (r : Record) (welcome : IsTrue (is_welcome old.store.table.limits t r)) where
  abbrev limits_of : Limits
  limits_of = old.store.table.limits

  parts : Welcome limits_of t r
  parts = welcome-parts limits_of t r welcome

  -- the parts of what is asked of its number
  number : IsTrue (is_within 1 limits_of.sites r.id.site) × IsTrue (r.id.sequence == count_of_site t.dag r.id.site + 1)
  number = and_parts (is_within 1 limits_of.sites r.id.site) (r.id.sequence == count_of_site t.dag r.id.site + 1) parts.next

  uncollected : (p : StateId) → IsTrue (is_kept t.dag t.collected p) → IsFalse (is_among p t.collected)
  uncollected p stays = not-true (is_among p t.collected) (and_parts (is_known t.dag p) (not (is_among p t.collected)) stays).1

  next : IsNext t.dag r
  next =
      let below = and_parts (are_apart t.dag r.parents && list_all (takes_child limits_of t) r.parents) (is_none (open_conflict t.dag r.parents r.writes)) parts.below in
      let in_sequence : r.id.sequence ≡ count_of_site t.dag r.id.site + 1 = eqb-true r.id.sequence (count_of_site t.dag r.id.site + 1) number.1 in
      record {
        shape = parts.shape;
        new = next-is_new t.dag here.well.dag r.id in_sequence;
        in_sequence = in_sequence;
        parents = all-implies (is_kept t.dag t.collected) (is_known t.dag) (λ x h. (and_parts (is_known t.dag x) (not (is_among x t.collected)) h).0) r.parents
            parts.kept;
        apart = (and_parts (are_apart t.dag r.parents) (list_all (takes_child limits_of t) r.parents) below.0).0;
        merges = conflicts-written t.dag r.parents r.writes (none-from (open_conflict t.dag r.parents r.writes) below.1);
      }

  -- it may be added below its parents
  pub may-be-added : (below : List Slot) → map (id_at old.store.table) below ≡ map (λ p. Some p) r.parents →
      MayBeAdded old.store.table t.dag t.collected r below
  may-be-added below named = record {
    next = next;
    site = leb-true r.id.site limits_of.sites (and_parts (nat_le 1 r.id.site) (nat_le r.id.site limits_of.sites) number.0).1;
    slots = named;
    kept = λ p among. uncollected p (all-at (is_kept t.dag t.collected) r.parents p parts.kept among);
  }

  -- the root stands where it stood
  root-stays : stand_in (r ∷ t.dag) t.collected root ≡ stand_in t.dag t.collected root
  root-stays =
      let stood : StandsInWell t.dag t.collected = stands-in-well t.dag t.collected here.well.dag here.store.table.shared in
      let s = stand_in t.dag t.collected root in
      stays-put t.collected t.dag r root
      (and_left (is_among s t.collected) (is_among s r.parents) (uncollected s (stood.kept root (root-is-known t.dag here.well.dag))))

  -- where it was added it was taken
  pub state-taken : (store : Store) (slot : Slot) → AddedIn old.store store t.dag t.collected r (Ok slot) → KeepsSlots old.store.table store.table →
      store.table.limits ≡ limits_of → TakenUnder limits_of (record { store = store; root = old.root }) t (ToldState r) (Ok true)
  state-taken store slot added keeps limits =
      let fits : IsTrue (fits_state limits_of t r) = and_from (is_welcome limits_of t r) (is_none (growth_refusal limits_of t.collected t.dag r)) welcome
      (ap is_none added.0) in (
        fits,
        part-stands old t (ToldState r) store old.root here fits limits added.1
            (keeps old.root (stand_in t.dag t.collected root) here.root_at ∙ ap (λ z. Some z) (sym root-stays)),
      )

  -- what isn't there stands for what stood
  stands-still : (store : Store) → StoreStands store t.dag t.collected → store.table ≡ old.store.table →
      LoadedStands (record { store = store; root = old.root }) t
  stands-still store stands same = record {
    store = stands;
    root_at = subst (λ (table : Table). id_at table old.root ≡ Some (stand_in t.dag t.collected root)) (sym same) here.root_at;
    well = subst (λ (table : Table). IsToldWell table.limits t) (sym same) here.well;
  }

  refused-unfit : (refusal : Refusal) → growth_refusal limits_of t.collected t.dag r ≡ Some refusal → IsFalse (fits_state limits_of t r)
  refused-unfit refusal e = and_right (is_welcome limits_of t r) (is_none (growth_refusal limits_of t.collected t.dag r)) (ap is_none e)

  -- where it wasn't it doesn't fit, or there was no memory
  pub state-untaken : (store : Store) (fault : AddFault) (result : Result Bool OutOfMemory) → AddedIn old.store store t.dag t.collected r (Err fault) →
      IsSameStore old.store store → UnaddedAs fault result → TakenUnder limits_of (record { store = store; root = old.root }) t (ToldState r) result
  state-untaken store (Full most) result added same e =
      subst (TakenUnder limits_of (record { store = store; root = old.root }) t (ToldState r)) (sym e)
      (refused-unfit _ added.0, stands-still store added.1 same.table)
  state-untaken store (PathFull x n) result added same e =
      subst (TakenUnder limits_of (record { store = store; root = old.root }) t (ToldState r)) (sym e)
      (refused-unfit _ added.0, stands-still store added.1 same.table)
  state-untaken store NoMemory (Ok answer) added same e = absurd e
  state-untaken store NoMemory (Err fault) added same e = stands-still store added same.table

-- so a record that was added is taken by all that the store stood for
pub state-takes : (old : Loaded) (r : Record) (below : List Slot) (store : Store) (slot : Slot) → IsWelcomeTo old r →
    map (id_at old.store.table) below ≡ map (λ p. Some p) r.parents →
    ((rs : List Record) (ks : List StateId) (q : Record) → StoreStands old.store rs ks → q.id ≡ r.id → q.writes ≡ r.writes →
    MayBeAdded old.store.table rs ks q below → AddedIn old.store store rs ks q (Ok slot)) →
    KeepsSlots old.store.table store.table → store.table.limits ≡ old.store.table.limits →
    TakesPart old (record { store = store; root = old.root }) (ToldState r) (Ok true)
state-takes old r below store slot welcome named added keeps limits = λ t here.
    state-taken old t here r (welcome t here) store slot
    (added t.dag t.collected r here.store refl refl (may-be-added old t here r (welcome t here) below named)) keeps limits

-- and one that wasn't doesn't fit, or there was no memory
pub state-misses : (old : Loaded) (r : Record) (below : List Slot) (store : Store) (fault : AddFault) (result : Result Bool OutOfMemory) → IsWelcomeTo old r →
    map (id_at old.store.table) below ≡ map (λ p. Some p) r.parents →
    ((rs : List Record) (ks : List StateId) (q : Record) → StoreStands old.store rs ks → q.id ≡ r.id → q.writes ≡ r.writes →
    MayBeAdded old.store.table rs ks q below → AddedIn old.store store rs ks q (Err fault)) →
    IsSameStore old.store store → UnaddedAs fault result → TakesPart old (record { store = store; root = old.root }) (ToldState r) result
state-misses old r below store fault result welcome named added same told = λ t here.
    state-untaken old t here r (welcome t here) store fault result
    (added t.dag t.collected r here.store refl refl (may-be-added old t here r (welcome t here) below named)) same told
