-- What `add` answers, from how the table grew or why it didn't.
use Rattle.std.proofs.Common.{◌≡◌, ℕ, ◌<◌, Bool, true, false, cond, eqb, ltb, List, [], ◌∷◌, ◌++◌, length, find, Option, Some, None, is_some, Ok, Err, IsTrue}
use Rattle.std.proofs.Common.{inl, inr, refl, sym, ap, subst, ◌∙◌, eq-eqb, arith}
use Rattle.std.specs.List.{list_all}
use Rattle.std.specs.Option.{option_map, option_map_or}
use Rattle.std.proofs.lemmas.Bool.{and_parts, and_from, cases_Bool, both_ways, cond-true, ltb-true, lt-ltb}
use Rattle.std.proofs.lemmas.Option.{none-some, same_Some}
use Rattle.tardis_base.specs.declared.ids.StateId.{StateId}
use Rattle.tardis_base.specs.declared.ids.Slot.{Slot}
use Rattle.tardis_base.specs.declared.records.Record.{Record}
use Rattle.tardis_base.specs.declared.faults.AddFault.TheVariants.{Full, PathFull}
use Rattle.tardis_base.specs.declared.replies.Refusal.{Refusal}
use Rattle.tardis_base.specs.declared.replies.Refusal.TheVariants.{Full as IsFull, PathFull as IsPathFull}
use Rattle.plain_dag.specs.Paths.{long_path}
use Rattle.plain_dag.specs.Collection.{kept_states}
use Rattle.state_dag.specs.Table.{Entry, Table, entry_at, is_slot, arrive_in_order, is_kept_at, arrival_at}
use Rattle.state_dag.specs.Stands.{Stands}
use Rattle.state_dag.specs.Answers.{MayBeAdded, AddedTo, IsNewSlot, KeepsSlots}
use Rattle.state_dag.specs.Grown.{IsNewPath, refusal_of, AreGrownEntries, IsGrown}
use Rattle.state_dag.proofs.Calls.{entries-kept, named-is_slot}
use Rattle.state_dag.proofs.Counting.{Differ}
use Rattle.state_dag.proofs.ParentSlots.{apart-differ, slots-differ}
use Rattle.state_dag.proofs.GrownSlots.{or_else, FoundBoth, looked, both, names-stay, new-named}
use Rattle.state_dag.proofs.Growing.{refusal-is, grows}

-- ===== Arrival order

-- all of these arrived before so many
abbrev pub have_arrived : ℕ → List Entry → Bool
have_arrived known es = list_all (λ e. ltb e.arrival known) es

found-arrived : (known k : ℕ) (es : List Entry) (e : Entry) → have_arrived known es ≡ true → find (λ f. eqb f.slot.0 k) es ≡ Some e → e.arrival < known
found-arrived known k [] e all is = absurd (none-some e is)
found-arrived known k (f ∷ es) e all is =
    let parts = and_parts (ltb f.arrival known) (have_arrived known es) all in
    elim (cases_Bool (eqb f.slot.0 k)) [
      | inl t ↦ subst (λ (g : Entry). g.arrival < known) (same_Some f e (rw t at is)) (ltb-true f.arrival known parts.0)
      | inr n ↦ found-arrived known k es e parts.1 (rw n at is)
    ]

module _ (old : Table) (parents : List Slot) (x : StateId) (slot : Slot) (newest : Entry) (last : newest.arrival ≡ old.known) where
  -- entries in order, and a last one that arrived after them
  order-stays : (os ns : List Entry) → AreGrownEntries old parents x slot os ns → arrive_in_order os ≡ true → have_arrived old.known os ≡ true →
      arrive_in_order (ns ++ newest ∷ []) ≡ true
  order-stays [] [] each up all = refl
  order-stays [] (n ∷ ns) each up all = absurd (each)
  order-stays (o ∷ os) [] each up all = absurd (each)
  order-stays (o ∷ []) (n ∷ []) each up all =
      let first = ltb-true o.arrival old.known (and_parts (ltb o.arrival old.known) true all).0 in
      let same = each.0.arrival_stays in
      and_from (ltb n.arrival newest.arrival) true (lt-ltb n.arrival newest.arrival (omega arith)) refl
  order-stays (o ∷ []) (n ∷ m ∷ ns) each up all = absurd (each.1)
  order-stays (o ∷ p ∷ os) (n ∷ []) each up all = absurd (each.1)
  order-stays (o ∷ p ∷ os) (n ∷ m ∷ ns) each up all =
      let parts = and_parts (ltb o.arrival p.arrival) (arrive_in_order (p ∷ os)) up in
      let rest = and_parts (ltb o.arrival old.known) (have_arrived old.known (p ∷ os)) all in
      let lt = ltb-true o.arrival p.arrival parts.0 in
      let same = each.0.arrival_stays in
      let next = each.1.0.arrival_stays in
      and_from (ltb n.arrival m.arrival) (arrive_in_order (m ∷ ns ++ newest ∷ [])) (lt-ltb n.arrival m.arrival (omega arith))
      (order-stays (p ∷ os) (m ∷ ns) each.1 parts.1 rest.1)

-- ===== Slots

module _ (old new : Table) (x : StateId) (parents : List Slot) (slot : Slot) (g : IsGrown old new x parents slot) where
  pub new-slot : IsNewSlot old new x slot
  new-slot = (ap (option_map (λ e. e.id)) g.fresh, new-named old new x parents slot g)

  pub keeps-slots : KeepsSlots old new
  keeps-slots = names-stay old new x parents slot g

  pub in-order : arrive_in_order old.entries ≡ true → have_arrived old.known old.entries ≡ true → arrive_in_order new.entries ≡ true
  in-order up all =
      subst (λ es. arrive_in_order es ≡ true) (sym g.entries) (order-stays old parents x slot g.newest g.is_new.arrival_is old.entries g.grown g.each up all)

  -- a slot stays one, with its arrival
  pub slot-stays : (s : Slot) → IsTrue (is_slot old s) → IsTrue (is_slot new s) × (arrival_at new s ≡ arrival_at old s)
  slot-stays s h = subst (λ (o : Option Entry). IsTrue (is_some o) × (option_map_or (λ (e : Entry). e.arrival) o 0 ≡ arrival_at old s))
      (sym (looked old new x parents slot g s))
      (go (entry_at old s) (find (λ e. eqb e.slot.0 s.0) g.grown) (both old new x parents slot g s) h)
    where
      other : Option Entry
      other = cond (eqb g.newest.slot.0 s.0) (Some g.newest) None

      go : (o n : Option Entry) → FoundBoth old parents x slot o n → IsTrue (is_some o) → IsTrue (is_some (or_else n other))
          × (option_map_or (λ e. e.arrival) (or_else n other) 0 ≡ option_map_or (λ e. e.arrival) o 0)
      go None n b e = absurd (both_ways false refl e)
      go (Some o) None b e = absurd (b)
      go (Some o) (Some n) b e = (refl, b.arrival_stays)

  pub kept-at-stays : (s : Slot) → have_arrived old.known old.entries ≡ true → IsTrue (is_kept_at old s) → IsTrue (is_kept_at new s)
      × (arrival_at new s ≡ arrival_at old s)
  kept-at-stays s all h =
      let parts = and_parts (is_slot old s) (arrive_in_order old.entries) h in
      let stays = slot-stays s parts.0 in
      (and_from (is_slot new s) (arrive_in_order new.entries) stays.0 (in-order parts.1 all), stays.1)

  -- the new state arrived last
  pub newest-arrival : arrival_at new slot ≡ old.known
  newest-arrival = ap (λ o. option_map_or (λ (e : Entry). e.arrival) o 0) (looked old new x parents slot g slot)
      ∙ go (entry_at old slot) (find (λ e. eqb e.slot.0 slot.0) g.grown) (both old new x parents slot g slot) g.fresh
    where
      go : (o n : Option Entry) → FoundBoth old parents x slot o n → ◌≡◌ {A = Option Entry} o None →
          option_map_or (λ e. e.arrival) (or_else n (cond (eqb g.newest.slot.0 slot.0) (Some g.newest) None)) 0 ≡ old.known
      go None None b e =
          ap (λ o. option_map_or (λ (f : Entry). f.arrival) o 0)
          (cond-true (eqb g.newest.slot.0 slot.0) (Some g.newest) None (eq-eqb g.newest.slot.0 slot.0 (ap (λ (s : Slot). s.0) g.is_new.slot_is)))
          ∙ g.is_new.arrival_is
      go None (Some n) b e = absurd (b)
      go (Some o) n b e = absurd (none-some o (sym e))

  pub newest-kept_at : arrive_in_order old.entries ≡ true → have_arrived old.known old.entries ≡ true → IsTrue (is_kept_at new slot)
  newest-kept_at up all =
      and_from (is_slot new slot) (arrive_in_order new.entries) (named-is_slot new slot x (new-named old new x parents slot g)) (in-order up all)

  -- after each slot that was kept before
  pub newest-is_last : (s : Slot) → have_arrived old.known old.entries ≡ true → IsTrue (is_kept_at old s) → arrival_at new s < arrival_at new slot
  newest-is_last s all h =
      let stays = (kept-at-stays s all h).1 in
      let last = newest-arrival in
      let before = go (entry_at old s) refl (and_parts (is_slot old s) (arrive_in_order old.entries) h).0 in
      omega arith
    where
      go : (o : Option Entry) → entry_at old s ≡ o → IsTrue (is_some o) → arrival_at old s < old.known
      go None is t = absurd (both_ways false refl t)
      go (Some e) is t = subst (λ (n : ℕ). n < old.known) (sym (ap (λ o. option_map_or (λ (f : Entry). f.arrival) o 0) is))
          (found-arrived old.known s.0 old.entries e all is)

-- ===== The answers

module _ (old new : Table) (rs : List Record) (ks : List StateId) (r : Record) (parents : List Slot) (stands : Stands old rs ks) where
  -- as many states are kept as may be
  pub full : (kept : ℕ) → kept ≡ length old.entries → kept ≡ old.limits.max_kept → new ≡ old → AddedTo old new rs ks r (Err (Full kept))
  full kept all most same =
      let listed : length (kept_states rs ks) ≡ kept = sym (entries-kept old rs ks stands) ∙ sym all in
      let rest : Option Refusal = option_map (λ (p : StateId × ℕ). IsPathFull p.0 p.1) (long_path (r ∷ rs) ks old.limits.max_path) in (
        ap (λ n. cond (eqb n old.limits.max_kept) (Some (IsFull n)) rest) listed ∙ cond-true (eqb kept old.limits.max_kept) (Some (IsFull kept)) rest
            (eq-eqb kept old.limits.max_kept most),
        same,
      )

  module _ (may : MayBeAdded old rs ks r parents) where
    -- a path would be too long
    pub path-full : (path : List (ℕ × ℕ)) (x : StateId) (n : ℕ) → IsNewPath old parents path → refusal_of old r.id parents (length path)
        ≡ Some (IsPathFull x n) → new ≡ old → AddedTo old new rs ks r (Err (PathFull x n))
    path-full path x n is refusal same = (refusal-is old rs ks r parents path stands may is ∙ refusal, same)

    -- the table has grown, and nothing refused
    pub added : (slot : Slot) (g : IsGrown old new r.id parents slot) → refusal_of old r.id parents (length g.newest.path) ≡ None →
        AddedTo old new rs ks r (Ok slot)
    added slot g nothing =
        let none = refusal-is old rs ks r parents g.newest.path stands may g.is_new.path ∙ nothing in
        (none, grows old new rs ks r parents slot stands may none g)

    -- the parents' slots differ
    pub parents-differ : Differ (λ a b. eqb b.0 a.0) parents
    parents-differ = slots-differ old rs ks stands parents r.parents may.slots (apart-differ rs r.parents may.next.apart)
