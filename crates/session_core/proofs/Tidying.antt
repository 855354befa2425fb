-- Closed states are collected: what stands for the site then.
use Rattle.std.proofs.Common.{◌≡◌, ℕ, zero, suc, ◌-◌, ◌<◌, Bool, List, [], ◌∷◌, map, length, slice_get, unwrap_or, Option, Some, IsTrue, IsFalse, refl, sym}
use Rattle.std.proofs.Common.{ap, ap₂, subst, ◌∙◌, arith}
use Rattle.std.specs.Prelude.{nat_le}
use Rattle.std.specs.List.{list_any, list_all}
use Rattle.std.proofs.lemmas.Bool.{and_parts, and_from, or_left, or_right, both_ways, false_from_ne_true, leb-true}
use Rattle.tardis_base.specs.declared.ids.StateId.{StateId}
use Rattle.tardis_base.specs.declared.ids.Slot.{Slot}
use Rattle.tardis_base.specs.declared.records.Limits.{Limits}
use Rattle.tardis_base.specs.Ids.{is_among}
use Rattle.plain_dag.specs.Above.{is_above}
use Rattle.plain_dag.specs.Begin.{is_admitted}
use Rattle.plain_dag.specs.Entries.{entry_of}
use Rattle.plain_dag.specs.Floors.{Session, Sessions, Floor, opening_floor, is_above_ceilings}
use Rattle.plain_dag.specs.Collection.{tidied}
use Rattle.plain_dag.proofs.Ids.{among-first, among-later, all-at}
use Rattle.state_dag.specs.Table.{Table, id_at}
use Rattle.state_dag.proofs.Calls.{named-is_slot}
use Rattle.record_store.specs.Store.{Store}
use Rattle.record_store.proofs.Records.{named-are_slots}
use Rattle.ceiling_book.specs.Book.{Book, floors_of}
use Rattle.ceiling_book.specs.Places.{AreSlots}
use Rattle.merge_txn.specs.declared.Txn.{Txn as Kept}
use Rattle.merge_txn.specs.declared.Txn.TheVariants.{Single as KeptSingle, Merge as KeptMerge}
use Rattle.path_compress.specs.Together.{are_under_floors, StandTogether, KeepsNumbers, KeepsPromises, KeepsUncollected}
use Rattle.plain_site.specs.Site.{Site, own_floor, read_states}
use Rattle.plain_site.specs.Sound.{IsSound}
use Rattle.plain_site.specs.FloorSteps.{tidy}
use Rattle.plain_site.specs.Rest.{collected_by}
use Rattle.plain_site.proofs.SoundTidies.{tidy-keeps}
use Rattle.plain_site.proofs.CollectedStates.{collected-are-never-admitted}
use Rattle.session_core.specs.declared.Parts.TheInside.{Inside}
use Rattle.session_core.specs.Core.{Core}
use Rattle.session_core.specs.Held.{seen, IsHeld}
use Rattle.session_core.specs.Stands.{txn_of, CoreStands}
use Rattle.session_core.specs.Machine.{SiteStands}
use Rattle.session_core.specs.Txns.{has_slots, IsNamed}
use Rattle.session_core.proofs.Standing.{kept-for}

-- ===== Before

-- one of the floors passes
any-floor : (p : Floor → Bool) (fs : List Floor) (i : ℕ) → i < length fs → IsTrue (p (unwrap_or (slice_get fs i) opening_floor)) → IsTrue (list_any p fs)
any-floor p [] i l t = absurd (let bad : ⊥ = omega arith in bad)
any-floor p (f ∷ fs) zero l t = or_left (p f) (list_any p fs) t
any-floor p (f ∷ fs) (suc i) l t = or_right (p f) (list_any p fs) (any-floor p fs i (omega arith) t)

-- each open ceiling is under a floor: the own one
ceilings-under : (site : Site) → IsSound site → IsTrue (are_under_floors site.dag site.floors site.sessions)
ceilings-under site sound = each site.sessions sound.under_floor
  where
    within : site.own - 1 < length site.floors
    within =
        let own = and_parts (nat_le 1 site.own) (nat_le site.own site.limits.sites) sound.own in
        let first = leb-true 1 site.own own.0 in
        let last = leb-true site.own site.limits.sites own.1 in
        let many = sound.one_floor_each in
        omega arith

    each : (ss : Sessions) → IsTrue (is_above_ceilings site.dag ss (own_floor site).state) → IsTrue (are_under_floors site.dag site.floors ss)
    each [] above = refl
    each (s ∷ ss) above =
        let parts = and_parts (is_above site.dag (own_floor site).state s.1.ceiling) (is_above_ceilings site.dag ss (own_floor site).state) above in
        and_from (list_any (λ (f : Floor). is_above site.dag f.state s.1.ceiling) site.floors) (are_under_floors site.dag site.floors ss)
        (any-floor (λ f. is_above site.dag f.state s.1.ceiling) site.floors (site.own - 1) within parts.0) (each ss parts.1)

-- store and book of a site in memory stand together
pub core-together : (core : Core) (site : Site) → CoreStands core site → IsSound site → StandTogether core.store core.book site.dag site.collected
core-together core site stands sound = record {
  history = stands.store;
  placed = stands.placed;
  under_floors = ap₂ (are_under_floors site.dag) stands.floors stands.sessions ∙ ceilings-under site sound;
}

-- ===== The transactions

-- what an open transaction reads isn't collected
reads-uncollected : (site : Site) (xs : List StateId) (n : ℕ) (s : Session) → IsSound site → entry_of n site.sessions ≡ Some s →
    IsTrue (list_all (is_admitted site.dag s.ceiling) xs) →
    (x : StateId) → IsTrue (is_among x xs) → IsFalse (is_among x site.collected)
reads-uncollected site xs n s sound opened admitted x among =
    false_from_ne_true (is_among x site.collected) (λ gone.
    both_ways (is_admitted site.dag s.ceiling x) (collected-are-never-admitted site n s x sound opened gone)
    (all-at (is_admitted site.dag s.ceiling) xs x admitted among))

module _ (old new : Table) (ks : List StateId) (stays : KeepsUncollected old new ks) where
  names-stay : (ss : List Slot) (xs : List StateId) → ((x : StateId) → IsTrue (is_among x xs) → IsFalse (is_among x ks)) → map (id_at old) ss
      ≡ map (λ x. Some x) xs → map (id_at new) ss ≡ map (λ x. Some x) xs
  names-stay [] [] out e = refl
  names-stay [] (x ∷ xs) out e = absurd (let bad : ⊥ = cc in bad)
  names-stay (s ∷ ss) [] out e = absurd (let bad : ⊥ = cc in bad)
  names-stay (s ∷ ss) (x ∷ xs) out e =
      let here : id_at old s ≡ Some x = cc in
      let rest : map (id_at old) ss ≡ map (λ (y : StateId). Some y) xs = cc in
      ap₂ (λ (o : Option StateId) (os : List (Option StateId)). o ∷ os) (stays s x here (out x (among-first x xs)))
      (names-stay ss xs (λ y m. out y (among-later y x xs m)) rest)

  -- so its slots name these states still
  named-stays : (t : Kept) → ((x : StateId) → IsTrue (is_among x (read_states (txn_of t))) → IsFalse (is_among x ks)) → IsNamed old t → IsNamed new t
  named-stays (KeptSingle t) out named = stays t.slot t.state named (out t.state (among-first t.state []))
  named-stays (KeptMerge t) out named = names-stay t.slots t.states out named

-- slots that name states are some
named-slots : (table : Table) (t : Kept) → IsNamed table t → IsTrue (has_slots table t)
named-slots table (KeptSingle t) named = named-is_slot table t.slot t.state named
named-slots table (KeptMerge t) named = named-are_slots table t.slots t.states named

-- ===== After

module _ (core : Core) (store : Store) (book : Book) (site : Site) (n : ℕ) (stands : CoreStands core site) (sound : IsSound site)
    (keeps : KeepsUncollected core.store.table store.table (tidied n site.dag (floors_of core.book) site.collected)) where
  abbrev after : Site
  after = (tidy site n).0

  same-collected : tidied n site.dag (floors_of core.book) site.collected ≡ tidied n site.dag site.floors site.collected
  same-collected = ap (λ fs. tidied n site.dag fs site.collected) stands.floors

  -- the transactions are named in the table as it is then
  txns-named : (m : ℕ) (t : Kept) → entry_of m core.txns ≡ Some t → IsNamed store.table t
  txns-named m t is =
      let found = kept-for core site stands m t is in
      let still = tidy-keeps site n sound in
      let was = still.each_txn m (txn_of t) found in
      named-stays core.store.table store.table (tidied n site.dag site.floors site.collected)
      (subst (KeepsUncollected core.store.table store.table) same-collected keeps) t
      (reads-uncollected after (read_states (txn_of t)) m was.0 still was.1 was.2.admitted) (stands.slots m t is)

  pub tidy-gives : (count : ℕ) → KeepsNumbers core.store.table store.table → KeepsPromises core.book book →
      StandTogether store book site.dag (tidied n site.dag (floors_of core.book) site.collected) →
      count ≡ length (tidied n site.dag (floors_of core.book) site.collected) - length site.collected →
      SiteStands (record core { store = store; book = book }) after × (count ≡ collected_by n site)
  tidy-gives count numbers promises together told =
      let now = subst (StandTogether store book site.dag) same-collected together in (
        (
          record {
            store = now.history;
            limits = numbers.limits ∙ stands.limits;
            own = promises.own ∙ stands.own;
            max_sessions = promises.max_sessions ∙ stands.max_sessions;
            sessions = promises.sessions ∙ stands.sessions;
            floors = promises.floors ∙ stands.floors;
            placed = now.placed;
            txns = stands.txns;
            slots = txns-named;
            waiting = stands.waiting;
          },
          tidy-keeps site n sound,
        ),
        told ∙ ap (λ (zs : List StateId). length zs - length site.collected) same-collected,
      )

-- and what always holds of the memory holds
pub tidy-held : (a : Inside) (store : Store) (book : Book) (site : Site) (n : ℕ) → CoreStands (seen a) site → IsSound site →
    KeepsUncollected a.store.table store.table (tidied n site.dag (floors_of a.book) site.collected) → IsHeld a → KeepsNumbers a.store.table store.table →
    KeepsPromises a.book book → AreSlots book store.table →
    IsHeld (record a { store = store; book = book })
tidy-held a store book site n stands sound keeps held numbers promises slots = record {
  places = slots;
  slots = λ m t is. named-slots store.table t (txns-named (seen a) store book site n stands sound keeps m t is);
  floors = ap length promises.floors ∙ held.floors ∙ sym (ap (λ (l : Limits). l.sites) numbers.limits);
  room = held.room;
}
