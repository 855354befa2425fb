-- The order that a table lends.
use Rattle.std.proofs.Common.{◌≡◌, ℕ, ◌<◌, ◌≤◌, true, false, eqb, ltb, leb, List, [], ◌∷◌, find, is_some, Option, Some, None, IsTrue, refl, sym, ap, subst, ◌∙◌}
use Rattle.std.proofs.Common.{inl, inr, eqb-true, arith}
use Rattle.std.specs.Option.{option_map_or}
use Rattle.std.proofs.lemmas.Bool.{and_parts, cases_Bool, both_ways, ltb-true, leb-true, cond-false}
use Rattle.tardis_base.specs.declared.ids.Slot.{Slot}
use Rattle.fork_path.specs.Pairs.{has_pairs}
use Rattle.state_dag.specs.Table.{Entry, Table, entry_at, is_slot, arrive_in_order, is_kept_at, arrival_at, is_entry_above, is_slot_above}

-- the arrival of the entry at this number
arrival_in : List Entry → ℕ → ℕ
arrival_in es k = option_map_or (λ e. e.arrival) (find (λ e. eqb e.slot.0 k) es) 0

-- what is found behind the first of entries in order arrived after it
later : (e : Entry) (es : List Entry) (k : ℕ) → arrive_in_order (e ∷ es) ≡ true → is_some (find (λ f. eqb f.slot.0 k) es) ≡ true
    → e.arrival < option_map_or (λ f. f.arrival) (find (λ f. eqb f.slot.0 k) es) 0
later e [] k up there = absurd (both_ways false refl there)
later e (f ∷ es) k up there =
    let parts = and_parts (ltb e.arrival f.arrival) (arrive_in_order (f ∷ es)) up in
    let first = ltb-true e.arrival f.arrival parts.0 in
    elim (cases_Bool (eqb f.slot.0 k)) [
      | inl t ↦ rw t first
      | inr n ↦
          let rest = later f es k parts.1 (subst (λ o. is_some o ≡ true) (cond-false (eqb f.slot.0 k) (Some f) (find (λ g. eqb g.slot.0 k) es) n) there) in
          rw n (omega arith)
    ]

rest-in_order : (e : Entry) (es : List Entry) → arrive_in_order (e ∷ es) ≡ true → arrive_in_order es ≡ true
rest-in_order e [] up = refl
rest-in_order e (f ∷ es) up = (and_parts (ltb e.arrival f.arrival) (arrive_in_order (f ∷ es)) up).1

same-number : (es : List Entry) (a b : ℕ) → arrive_in_order es ≡ true → is_some (find (λ f. eqb f.slot.0 a) es) ≡ true
    → is_some (find (λ f. eqb f.slot.0 b) es) ≡ true →
    option_map_or (λ f. f.arrival) (find (λ f. eqb f.slot.0 a) es) 0 ≡ option_map_or (λ f. f.arrival) (find (λ f. eqb f.slot.0 b) es) 0 → a ≡ b
same-number [] a b up there_a there_b same = absurd (both_ways false refl there_a)
same-number (e ∷ es) a b up there_a there_b same = elim (cases_Bool (eqb e.slot.0 a)) [
  | inl t ↦ elim (cases_Bool (eqb e.slot.0 b)) [
    | inl u ↦ sym (eqb-true e.slot.0 a t) ∙ eqb-true e.slot.0 b u
    | inr n ↦
        let rest = later e es b up (rw n at there_b) in
        let equal = rw (t, n) at same in
        absurd (omega arith)
  ]
  | inr n ↦ elim (cases_Bool (eqb e.slot.0 b)) [
    | inl u ↦
        let rest = later e es a up (rw n at there_a) in
        let equal = rw (n, u) at same in
        absurd (omega arith)
    | inr m ↦ same-number es a b (rest-in_order e es up) (rw n at there_a) (rw m at there_b) (rw (n, m) at same)
  ]
]

-- kept states that arrived together stand at one slot
pub arrivals-differ : (table : Table) (a b : Slot) → IsTrue (is_kept_at table a) → IsTrue (is_kept_at table b) → arrival_at table a ≡ arrival_at table b → a ≡ b
arrivals-differ table a b kept_a kept_b same =
    let named : ℕ → Slot = λ n. record { 0 = n } in
    let one = and_parts (is_slot table a) (arrive_in_order table.entries) kept_a in
    let two = and_parts (is_slot table b) (arrive_in_order table.entries) kept_b in
    ap named (same-number table.entries a.0 b.0 one.1 one.0 two.0 same)

-- what stands above a state arrived no later
pub above-came_first : (table : Table) (a b : Slot) → IsTrue (is_slot_above table a b) → arrival_at table a ≤ arrival_at table b
above-came_first table a b above = go (entry_at table a) (entry_at table b) above
  where
    go : (o p : Option Entry) → option_map_or (λ e. option_map_or (λ f. is_entry_above e f) p false) o false ≡ true
        → option_map_or (λ e. e.arrival) o 0 ≤ option_map_or (λ e. e.arrival) p 0
    go None p h = absurd (both_ways false refl h)
    go (Some e) None h = absurd (both_ways false refl h)
    go (Some e) (Some f) h = leb-true e.arrival f.arrival (and_parts (leb e.arrival f.arrival) (has_pairs f.path e.path) h).0
