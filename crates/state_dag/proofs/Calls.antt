-- What the calls read off the memory.
use Rattle.std.proofs.Common.{◌≡◌, ℕ, ◌+◌, ◌-◌, ◌<◌, ◌≤◌, Bool, true, false, cond, List, [], ◌∷◌, ◌++◌, length, map, get_or, slice_get, Option, Some, None}
use Rattle.std.proofs.Common.{find, eqb, is_some, IsTrue, IfSome, inl, inr, refl, sym, ap, subst, ◌∙◌, arith, length-append}
use Rattle.std.specs.Option.{option_map, option_map_or, option_and_then}
use Rattle.std.proofs.lemmas.Bool.{and_parts, and_from, or_parts, cases_Bool, cond-true, cond-false, both_ways, false_from_ne_true, eqb-true}
use Rattle.std.proofs.lemmas.Option.{none-some, same_Some}
use Rattle.std.proofs.lemmas.List.{length-map}
use Rattle.std.proofs.lemmas.List.FromFn.{get_or-map-range_with_len}
use Rattle.tardis_base.specs.declared.ids.StateId.{StateId}
use Rattle.tardis_base.specs.declared.ids.Slot.{Slot}
use Rattle.tardis_base.specs.declared.records.Record.{Record}
use Rattle.tardis_base.specs.Ids.{root, same_id, is_among}
use Rattle.plain_dag.specs.States.{count_of_site}
use Rattle.plain_dag.specs.Begin.{last_arrived}
use Rattle.plain_dag.specs.Collection.{is_kept, kept_states}
use Rattle.plain_dag.proofs.Ids.{same_id-true, same_id_self}
use Rattle.state_dag.specs.declared.StateDag.TheInside.{Inside}
use Rattle.state_dag.specs.Table.{Entry, Table, entry_at, id_at, is_slot, arrive_in_order, is_kept_at, arrival_at}
use Rattle.state_dag.specs.Views.{entry_of, slot_or, slot_of_id}
use Rattle.state_dag.specs.Nodes.{table_of, AreDistinct}
use Rattle.std.specs.List.{list_all}
use Rattle.state_dag.specs.Held.{kept_of, seen, IsHeld}
use Rattle.std.specs.List.Sorted.{IsNonDecreasingBy}
use Rattle.state_dag.specs.declared.nodes.Node.{Node}
use Rattle.state_dag.proofs.Rising.{rising-falls_not, rising-place}
use Rattle.state_dag.specs.Stands.{Stands}
use Rattle.state_dag.specs.Answers.{next_of, slot_after}
use Rattle.state_dag.proofs.LeafSlots.{AreFound, found-rest}
use Rattle.state_dag.proofs.Places.{AllDiffer}
use Rattle.state_dag.proofs.KeptEntries.{slots_of, id-behind}
use Rattle.state_dag.proofs.Memory.{found-all, entries-apart, kept-slots, kept-rise, slot-kept, entry-alike}
use Rattle.state_dag.proofs.Known.{kept-is_listed, kept-differ, last-kept}

-- ===== Numbers

pub counted : (table : Table) (rs : List Record) (ks : List StateId) → Stands table rs ks → (site : ℕ) (counts : List ℕ) (d : ℕ) → counts ≡ table.counts →
    1 ≤ site → site ≤ table.limits.sites →
    get_or counts (site - 1) d ≡ count_of_site rs site
counted table rs ks stands site counts d same some within =
    ap (λ ns. get_or ns (site - 1) d) (same ∙ stands.counts)
    ∙ get_or-map-range_with_len (count_of_site rs) 1 table.limits.sites (site - 1) site d (omega arith) (omega arith)

pub entries-kept : (table : Table) (rs : List Record) (ks : List StateId) → Stands table rs ks → length table.entries ≡ length (kept_states rs ks)
entries-kept table rs ks stands = sym (length-map table.entries (λ e. e.id)) ∙ ap length stands.ids

-- ===== Searches

module _ (table : Table) (x : StateId) where
  -- the last slot that has an id names it
  pub searched-at : (es : List Entry) (s : Slot) → AreFound table es → slot_of_id es x ≡ Some s → id_at table s ≡ Some x
  searched-at [] s found h = absurd (none-some s h)
  searched-at (e ∷ es) s found h = go (searched-at es s (found-rest table e es found)) (slot_of_id es x) refl h
    where
      go : (slot_of_id es x ≡ Some s → id_at table s ≡ Some x) → (o : Option Slot) → slot_of_id es x ≡ o →
          slot_or o (cond (same_id x e.id) (Some e.slot) None) ≡ Some s → id_at table s ≡ Some x
      go further (Some t) is h₂ = further (is ∙ h₂)
      go further None is h₂ = elim (cases_Bool (same_id x e.id)) [
        | inl t ↦
            let same : e.slot ≡ s = same_Some e.slot s (sym (cond-true (same_id x e.id) (Some e.slot) None t) ∙ h₂) in
            subst (λ z. id_at table z ≡ Some x) same (ap (option_map (λ (f : Entry). f.id)) (found 0 e (omega arith))
            ∙ ap (λ z. Some z) (sym (same_id-true x e.id t)))
        | inr f ↦ absurd (none-some s (sym (cond-false (same_id x e.id) (Some e.slot) None f) ∙ h₂))
      ]

-- an id without a slot is none of the ids
pub searched-missing : (es : List Entry) (x : StateId) → ◌≡◌ {A = Option Slot} (slot_of_id es x) None → is_among x (map (λ e. e.id) es) ≡ false
searched-missing [] x h = refl
searched-missing (e ∷ es) x h = go (searched-missing es x) (slot_of_id es x) refl h
  where
    go : (◌≡◌ {A = Option Slot} (slot_of_id es x) None → is_among x (map (λ f. f.id) es) ≡ false) →
        (o : Option Slot) → slot_of_id es x ≡ o → ◌≡◌ {A = Option Slot} (slot_or o (cond (same_id x e.id) (Some e.slot) None)) None →
        is_among x (map (λ f. f.id) (e ∷ es)) ≡ false
    go further (Some t) is h₂ = absurd (none-some t (sym h₂))
    go further None is h₂ = elim (cases_Bool (same_id x e.id)) [
      | inl t ↦ absurd (none-some e.slot (sym h₂ ∙ cond-true (same_id x e.id) (Some e.slot) None t))
      | inr f ↦ rw f (further is)
    ]

pub named-is_slot : (table : Table) (s : Slot) (x : StateId) → id_at table s ≡ Some x → is_slot table s ≡ true
named-is_slot table s x h = go (entry_at table s) h
  where
    go : (o : Option Entry) → option_map (λ e. e.id) o ≡ Some x → is_some o ≡ true
    go None e = absurd (none-some x e)
    go (Some e) _ = refl

-- a slot names a state
pub named-of_slot : (table : Table) (s : Slot) → is_slot table s ≡ true → (x : StateId) × (id_at table s ≡ Some x)
named-of_slot table s h = go (entry_at table s) h
  where
    go : (o : Option Entry) → is_some o ≡ true → (x : StateId) × (option_map (λ e. e.id) o ≡ Some x)
    go None e = absurd (both_ways false refl e)
    go (Some e) _ = (e.id, refl)

pub searched-names : (table : Table) (x : StateId) (o : Option Slot) → AreFound table table.entries → o ≡ slot_of_id table.entries x →
    IfSome o (λ slot. id_at table slot ≡ Some x)
searched-names table x None found e = tt
searched-names table x (Some s) found e = searched-at table x table.entries s found (sym e)

-- where no id is there twice, the slot with the id is found
missing-none : (x : StateId) (es : List Entry) → is_among x (map (λ e. e.id) es) ≡ false → ◌≡◌ {A = Option Slot} (slot_of_id es x) None
missing-none x [] out = refl
missing-none x (e ∷ es) out =
    let parts = or_parts (same_id x e.id) (is_among x (map (λ f. f.id) es)) out in
    rw (missing-none x es parts.1) (cond-false (same_id x e.id) (Some e.slot) None parts.0)

pub searched-only : (x : StateId) (es : List Entry) (s : Slot) → AllDiffer (map (λ e. e.id) es) →
    option_map (λ e. e.id) (find (λ e. eqb e.slot.0 s.0) es) ≡ Some x → slot_of_id es x ≡ Some s
searched-only x [] s differ named = absurd (none-some x named)
searched-only x (e ∷ es) s differ named = elim (cases_Bool (eqb e.slot.0 s.0)) [
  | inl t ↦
      let is : e.id ≡ x = same_Some e.id x (rw t at named) in
      let out = subst (λ z. is_among z (map (λ f. f.id) es) ≡ false) is differ.0 in
      let slot : ℕ → Slot = λ n. record { 0 = n } in
      rw (missing-none x es out) (cond-true (same_id x e.id) (Some e.slot) None (subst (λ z. same_id x z ≡ true) (sym is) (same_id_self x))
      ∙ ap (λ n. Some (slot n)) (eqb-true e.slot.0 s.0 t))
  | inr f ↦ rw (searched-only x es s differ.1 (rw f at named)) refl
]

pub searched-is_kept : (table : Table) (x : StateId) (o : Option Slot) → AreFound table table.entries → IsTrue (arrive_in_order table.entries) →
    o ≡ slot_of_id table.entries x → IfSome o (λ slot. IsTrue (is_kept_at table slot))
searched-is_kept table x None found up e = tt
searched-is_kept table x (Some s) found up e = and_from (is_slot table s) (arrive_in_order table.entries)
    (named-is_slot table s x (searched-at table x table.entries s found (sym e))) up

pub searched-unlisted : (table : Table) (x : StateId) (o : Option Slot) → o ≡ slot_of_id table.entries x → ◌≡◌ {A = Option Slot} o None →
    is_among x (map (λ e. e.id) table.entries) ≡ false
searched-unlisted table x o e none = searched-missing table.entries x (sym e ∙ none)

pub searched-none : (table : Table) (rs : List Record) (ks : List StateId) (x : StateId) (o : Option Slot) → Stands table rs ks →
    o ≡ slot_of_id table.entries x → ◌≡◌ {A = Option Slot} o None → is_kept rs ks x ≡ false
searched-none table rs ks x o stands e none = false_from_ne_true (is_kept rs ks x) (λ h.
    both_ways (is_among x (kept_states rs ks)) (subst (λ xs. is_among x xs ≡ false) stands.ids (searched-missing table.entries x (sym e ∙ none)))
    (kept-is_listed rs ks x h))

-- ===== Slots in arrival order

-- an entry that stands for none
abbrev pub no_entry : Entry
no_entry = record { slot = record { 0 = 0 }; id = root; arrival = 0; parents = []; children = []; stand_ins = []; path = [] }

pub slot-of_entry : (es : List Entry) (k : ℕ) (d : Entry) (s : Slot) → k < length es → get_or (slots_of es) k s ≡ (get_or es k d).slot
slot-of_entry [] k d s lt = absurd (omega arith)
slot-of_entry (e ∷ es) ℕ.zero d s lt = refl
slot-of_entry (e ∷ es) (ℕ.suc k) d s lt = slot-of_entry es k d s (omega arith)

-- behind the first of some ids
id-numbered : (es : List Entry) (ys zs : List StateId) (y : StateId) (d : Entry) → map (λ e. e.id) es ≡ ys ++ y ∷ zs → (get_or es (length ys) d).id ≡ y
id-numbered [] [] zs y d h = absurd (let bad : ⊥ = cc in bad)
id-numbered [] (x ∷ ys) zs y d h = absurd (let bad : ⊥ = cc in bad)
id-numbered (e ∷ es) [] zs y d h = cc
id-numbered (e ∷ es) (x ∷ ys) zs y d h =
    let rest : map (λ (f : Entry). f.id) es ≡ ys ++ y ∷ zs = cc in
    id-numbered es ys zs y d rest

-- the last entry is that of the state that arrived last
pub last-is : (table : Table) (rs : List Record) (ks : List StateId) (k : ℕ) (d : Entry) → Stands table rs ks → k + 1 ≡ length table.entries →
    (get_or table.entries k d).id ≡ last_arrived rs
last-is table rs ks k d stands last =
    let w = last-kept rs ks stands.dag stands.shared in
    let ids : map (λ (e : Entry). e.id) table.entries ≡ w.0 ++ last_arrived rs ∷ [] = stands.ids ∙ w.1 in
    let all = length-map table.entries (λ (e : Entry). e.id) in
    let same = ap length ids in
    let parts = length-append w.0 (last_arrived rs ∷ []) in
    let place : length w.0 ≡ k = omega arith in
    subst (λ m. (get_or table.entries m d).id ≡ last_arrived rs) place (id-numbered table.entries w.0 [] (last_arrived rs) d ids)

pub named-entry : (table : Table) (k : ℕ) (d : Entry) → AreFound table table.entries → k < length table.entries →
    id_at table (get_or table.entries k d).slot ≡ Some (get_or table.entries k d).id
named-entry table k d found lt = ap (option_map (λ (e : Entry). e.id)) (found k d lt)

pub arrival-entry : (table : Table) (k : ℕ) (d : Entry) → AreFound table table.entries → k < length table.entries →
    arrival_at table (get_or table.entries k d).slot ≡ (get_or table.entries k d).arrival
arrival-entry table k d found lt = ap (λ o. option_map_or (λ (e : Entry). e.arrival) o 0) (found k d lt)

-- what the slot of a number names
pub read-slot : (table : Table) (es : List Entry) (k : ℕ) → AreFound table es →
    option_and_then (id_at table) (option_map (λ (e : Entry). e.slot) (slice_get es k)) ≡ option_map (λ (e : Entry). e.id) (slice_get es k)
read-slot table [] k found = refl
read-slot table (e ∷ es) ℕ.zero found = ap (option_map (λ (f : Entry). f.id)) (found 0 e (omega arith))
read-slot table (e ∷ es) (ℕ.suc k) found = read-slot table es k (found-rest table e es found)

-- behind a slot the next one names the next kept state
pub next-is : (table : Table) (rs : List Record) (ks : List StateId) (k j : ℕ) (d : Entry) → Stands table rs ks → AreFound table table.entries → j ≡ k + 1
    → k < length table.entries →
    option_and_then (id_at table) (option_map (λ (e : Entry). e.slot) (slice_get table.entries j))
    ≡ next_of (kept_states rs ks) (Some (get_or table.entries k d).id)
next-is table rs ks k j d stands found next lt =
    let differ = subst AllDiffer (sym stands.ids) (kept-differ rs ks stands.dag) in
    read-slot table table.entries j found ∙ sym (id-behind table.entries differ k j d next lt)
    ∙ ap (λ xs. next_of xs (Some (get_or table.entries k d).id)) stands.ids

pub first-is : (table : Table) (rs : List Record) (ks : List StateId) → Stands table rs ks → AreFound table table.entries →
    option_and_then (id_at table) (slot_after table.entries None) ≡ next_of (kept_states rs ks) None
first-is table rs ks stands found = read-slot table table.entries 0 found ∙ first-id table.entries ∙ ap (λ xs. slice_get xs 0) stands.ids
  where
    first-id : (es : List Entry) → option_map (λ (e : Entry). e.id) (slice_get es 0) ≡ slice_get (map (λ e. e.id) es) 0
    first-id [] = refl
    first-id (e ∷ es) = refl

-- what is read of the slots is the slot of what is read
pub read-entry : (es : List Entry) (k : ℕ) → slice_get (slots_of es) k ≡ option_map (λ e. e.slot) (slice_get es k)
read-entry [] k = refl
read-entry (e ∷ es) ℕ.zero = refl
read-entry (e ∷ es) (ℕ.suc k) = read-entry es k

pub read-some : (es : List Entry) (k : ℕ) (d : Entry) → k < length es → slice_get es k ≡ Some (get_or es k d)
read-some [] k d lt = absurd (omega arith)
read-some (e ∷ es) ℕ.zero d lt = refl
read-some (e ∷ es) (ℕ.suc k) d lt = read-some es k d (omega arith)

-- ===== Entries and slots of the memory

-- each entry is found at its slot
pub entries-found : (a : Inside) (table : Table) → IsHeld a → seen a ≡ table → AreFound table table.entries
entries-found a table held is = subst (λ t. AreFound t t.entries) is (found-all a held)

pub entries-distinct : (a : Inside) (table : Table) → IsHeld a → seen a ≡ table → AreDistinct (slots_of table.entries)
entries-distinct a table held is = subst (λ (t : Table). AreDistinct (slots_of t.entries)) is (entries-apart a held)

-- what is read of a list passes what all pass
pub read-is : (test : Slot → Bool) (ss : List Slot) (k : ℕ) (o : Option Slot) → list_all test ss ≡ true → o ≡ slice_get ss k → IfSome o (λ s. IsTrue (test s))
read-is test ss k None all is = tt
read-is test [] k (Some s) all is = absurd (none-some s (sym is))
read-is test (t ∷ ss) ℕ.zero (Some s) all is = subst (λ z. IsTrue (test z)) (same_Some t s (sym is)) (and_parts (test t) (list_all test ss) all).0
read-is test (t ∷ ss) (ℕ.suc k) (Some s) all is = read-is test ss k (Some s) (and_parts (test t) (list_all test ss) all).1 is

-- ===== Where a slot stands

module _ (a : Inside) (held : IsHeld a) where
  pub kept-are : (table : Table) (ss : List Slot) → seen a ≡ table → ss ≡ map (λ e. e.slot) table.entries → ss ≡ kept_of a
  kept-are table ss is lent = lent ∙ ap (λ (t : Table). map (λ (e : Entry). e.slot) t.entries) (sym is) ∙ kept-slots a held

  pub arrival-of_node : (table : Table) (slot : Slot) (n : Node) → seen a ≡ table → is_slot table slot ≡ true → entry_at table slot
      ≡ Some (entry_of slot.0 n) → n.arrival ≡ arrival_at (table_of a.nodes.items) slot
  arrival-of_node table slot n is there found =
      sym (ap (λ o. option_map_or (λ (e : Entry). e.arrival) o 0)
      (entry-alike a held slot (subst (λ t. is_slot t slot ≡ true) (sym is) there) ∙ ap (λ (t : Table). entry_at t slot) is ∙ found))

  -- found by its arrival among the kept slots
  pub placed-at : (ns : List Node) (ss : List Slot) → ns ≡ a.nodes.items → ss ≡ kept_of a → (slot : Slot) (arrival p : ℕ) → is_slot (seen a) slot ≡ true →
      arrival ≡ arrival_at (table_of a.nodes.items) slot →
      ((j : ℕ) (d : Slot) → j < p → arrival_at (table_of ns) (get_or ss j d) < arrival) →
      ((j : ℕ) (d : Slot) → p ≤ j → j < length ss → arrival ≤ arrival_at (table_of ns) (get_or ss j d)) →
      (p < length (kept_of a)) × ((d : Slot) → get_or (kept_of a) p d ≡ slot)
  placed-at ns ss nodes kept slot arrival p there is before from =
      let number = arrival_at (table_of a.nodes.items) in
      rising-place number (kept_of a) slot p (kept-rise a held) (slot-kept a held slot there)
      (λ j d less. subst (λ m. number (get_or (kept_of a) j d) < m) is
      (subst (λ ms. arrival_at (table_of ms) (get_or (kept_of a) j d) < arrival) nodes
      (subst (λ qs. arrival_at (table_of ns) (get_or qs j d) < arrival) kept (before j d less))))
      (λ j d le lt. subst (λ m. m ≤ number (get_or (kept_of a) j d)) is
      (subst (λ ms. arrival ≤ arrival_at (table_of ms) (get_or (kept_of a) j d)) nodes
      (subst (λ qs. arrival ≤ arrival_at (table_of ns) (get_or qs j d)) kept (from j d le (subst (λ qs. j < length qs) (sym kept) lt)))))

  pub placed-entry : (slot : Slot) (p : ℕ) (d : Entry) → p < length (kept_of a) → ((s : Slot) → get_or (kept_of a) p s ≡ slot) →
      (get_or (seen a).entries p d).slot ≡ slot
  placed-entry slot p d lt is =
      let long = ap length (kept-slots a held) in
      let same = length-map (seen a).entries (λ (e : Entry). e.slot) in
      sym (slot-of_entry (seen a).entries p d slot (omega arith)) ∙ ap (λ ss. get_or ss p slot) (kept-slots a held) ∙ is slot

  pub slots-ascend : (ns : List Node) (ss : List Slot) → ns ≡ a.nodes.items → ss ≡ kept_of a → IsNonDecreasingBy (arrival_at (table_of ns)) ss
  slots-ascend ns ss nodes kept =
      subst (λ ms. IsNonDecreasingBy (arrival_at (table_of ms)) ss) (sym nodes)
      (subst (λ qs. IsNonDecreasingBy (arrival_at (table_of a.nodes.items)) qs) (sym kept)
      (rising-falls_not (arrival_at (table_of a.nodes.items)) (kept_of a) (kept-rise a held)))
