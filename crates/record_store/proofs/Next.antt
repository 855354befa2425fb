-- The state that arrived next after another.
use Rattle.std.proofs.Common.{◌≡◌, ℕ, ◌<◌, ◌≤◌, true, false, eqb, ltb, List, [], ◌∷◌, find, Option, Some, is_some, IsTrue, refl, ap, subst}
use Rattle.std.proofs.Common.{inl, inr, arith}
use Rattle.std.specs.Option.{option_map_or}
use Rattle.std.proofs.lemmas.Bool.{and_parts, cases_Bool, both_ways, ltb-true, eq-eqb, cond-true, cond-false}
use Rattle.std.proofs.lemmas.Option.{none-some, same_Some}
use Rattle.tardis_base.specs.declared.ids.Slot.{Slot}
use Rattle.state_dag.specs.Table.{Entry, Table, is_slot, is_kept_at, arrival_at, arrive_in_order}
use Rattle.state_dag.specs.Answers.{slot_after}

abbrev pub found_in : List Entry → ℕ → Option Entry
found_in es k = find (λ (e : Entry). eqb e.slot.0 k) es

abbrev pub arrival_in : List Entry → ℕ → ℕ
arrival_in es k = option_map_or (λ (e : Entry). e.arrival) (find (λ (e : Entry). eqb e.slot.0 k) es) 0

pub first-found : (e : Entry) (es : List Entry) (k : ℕ) → eqb e.slot.0 k ≡ true → arrival_in (e ∷ es) k ≡ e.arrival
first-found e es k t = ap (λ o. option_map_or (λ (f : Entry). f.arrival) o 0) (cond-true (eqb e.slot.0 k) (Some e) (found_in es k) t)

pub later-found : (e : Entry) (es : List Entry) (k : ℕ) → eqb e.slot.0 k ≡ false → arrival_in (e ∷ es) k ≡ arrival_in es k
later-found e es k f = ap (λ o. option_map_or (λ (g : Entry). g.arrival) o 0) (cond-false (eqb e.slot.0 k) (Some e) (found_in es k) f)

pub there-later : (e : Entry) (es : List Entry) (k : ℕ) → eqb e.slot.0 k ≡ false → is_some (found_in (e ∷ es) k) ≡ true → is_some (found_in es k) ≡ true
there-later e es k f there = subst (λ o. is_some o ≡ true) (cond-false (eqb e.slot.0 k) (Some e) (found_in es k) f) there

pub rest-in_order : (e : Entry) (es : List Entry) → arrive_in_order (e ∷ es) ≡ true → arrive_in_order es ≡ true
rest-in_order e [] up = refl
rest-in_order e (f ∷ es) up = (and_parts (ltb e.arrival f.arrival) (arrive_in_order (f ∷ es)) up).1

-- what is found behind the first arrived after it
pub behind : (e : Entry) (es : List Entry) (k : ℕ) → arrive_in_order (e ∷ es) ≡ true → is_some (found_in es k) ≡ true → e.arrival < arrival_in es k
behind e [] k up there = absurd (both_ways false refl there)
behind e (f ∷ es) k up there =
    let parts = and_parts (ltb e.arrival f.arrival) (arrive_in_order (f ∷ es)) up in
    let first = ltb-true e.arrival f.arrival parts.0 in
    elim (cases_Bool (eqb f.slot.0 k)) [
      | inl t ↦ let is = first-found f es k t in omega (arith, first, is)
      | inr n ↦
          let rest = behind f es k parts.1 (there-later f es k n there) in
          let is = later-found f es k n in
          omega (arith, first, rest, is)
    ]

-- and no earlier than the first of them
from-first : (f : Entry) (es : List Entry) (k : ℕ) → arrive_in_order (f ∷ es) ≡ true → is_some (found_in (f ∷ es) k) ≡ true →
    f.arrival ≤ arrival_in (f ∷ es) k
from-first f es k up there = elim (cases_Bool (eqb f.slot.0 k)) [
  | inl t ↦ let is = first-found f es k t in omega (arith, is)
  | inr n ↦
      let rest = behind f es k up (there-later f es k n there) in
      let is = later-found f es k n in
      omega (arith, rest, is)
]

-- no later than the entry that it would be read from
no-later : (e : Entry) (es : List Entry) (k n : ℕ) → e.arrival ≤ n → arrival_in es k ≤ n → arrival_in (e ∷ es) k ≤ n
no-later e es k n first rest = elim (cases_Bool (eqb e.slot.0 k)) [
  | inl t ↦ let is = first-found e es k t in omega (arith, is, first)
  | inr f ↦ let is = later-found e es k f in omega (arith, is, rest)
]

between : (es : List Entry) (slot next s : Slot) → arrive_in_order es ≡ true → slot_after es (Some slot) ≡ Some next →
    is_some (found_in es slot.0) ≡ true → is_some (found_in es s.0) ≡ true → arrival_in es slot.0 < arrival_in es s.0 →
    arrival_in es next.0 ≤ arrival_in es s.0
between [] slot next s up is here there later = absurd (both_ways false refl here)
between (e ∷ es) slot next s up is here there later = elim (cases_Bool (eqb e.slot.0 slot.0)) [
  | inl t ↦ first t es up is there later
  | inr f ↦
      let own = later-found e es slot.0 f in
      let found = there-later e es slot.0 f here in
      let before = behind e es slot.0 up found in
      elim (cases_Bool (eqb e.slot.0 s.0)) [
        | inl t ↦ let same = first-found e es s.0 t in absurd (omega (arith, own, before, same, later))
        | inr g ↦
            let same = later-found e es s.0 g in
            let rest = between es slot next s (rest-in_order e es up) (rw f at is) found (there-later e es s.0 g there) (omega (arith, own, same, later)) in
            no-later e es next.0 (arrival_in (e ∷ es) s.0) (omega (arith, own, before, later)) (omega (arith, same, rest))
      ]
]
  where
    first : eqb e.slot.0 slot.0 ≡ true → (fs : List Entry) → arrive_in_order (e ∷ fs) ≡ true → slot_after (e ∷ fs) (Some slot) ≡ Some next →
        is_some (found_in (e ∷ fs) s.0) ≡ true → arrival_in (e ∷ fs) slot.0 < arrival_in (e ∷ fs) s.0 → arrival_in (e ∷ fs) next.0 ≤ arrival_in (e ∷ fs) s.0
    first t [] up is there later = absurd (none-some next (rw t at is))
    first t (f ∷ fs) up is there later =
        let own = first-found e (f ∷ fs) slot.0 t in
        let head : Some f.slot ≡ Some next = rw t at is in
        let named : f.slot ≡ next = same_Some f.slot next head in
        let parts = and_parts (ltb e.arrival f.arrival) (arrive_in_order (f ∷ fs)) up in
        elim (cases_Bool (eqb e.slot.0 s.0)) [
          | inl u ↦ let same = first-found e (f ∷ fs) s.0 u in absurd (omega (arith, own, same, later))
          | inr g ↦
              let same = later-found e (f ∷ fs) s.0 g in
              let from = from-first f fs s.0 parts.1 (there-later e (f ∷ fs) s.0 g there) in
              no-later e (f ∷ fs) next.0 (arrival_in (e ∷ f ∷ fs) s.0) (omega (arith, own, later))
              (subst (λ (q : Slot). arrival_in (f ∷ fs) q.0 ≤ arrival_in (e ∷ f ∷ fs) s.0) named
              (let itself = first-found f fs f.slot.0 (eq-eqb f.slot.0 f.slot.0 refl) in omega (arith, itself, same, from)))
        ]

-- none of the kept states arrived between one and the next
pub none-between : (table : Table) (slot next : Slot) → IsTrue (is_slot table slot) → slot_after table.entries (Some slot) ≡ Some next →
    (s : Slot) → IsTrue (is_kept_at table s) → arrival_at table slot < arrival_at table s → arrival_at table next ≤ arrival_at table s
none-between table slot next here is s kept later =
    let parts = and_parts (is_slot table s) (arrive_in_order table.entries) kept in
    between table.entries slot next s parts.1 is here parts.0 later
