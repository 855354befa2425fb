-- States that arrived after an open ceiling aren't at or above it.
use Rattle.std.proofs.Common.{◌≡◌, ℕ, zero, suc, ◌<◌, ◌≤◌, Bool, false, leb, List, [], ◌∷◌, length, map, take, get_or, Some, None, if◌then◌else◌, IsTrue, inl}
use Rattle.std.proofs.Common.{inr, refl, sym, ap, subst, ◌∙◌, arith}
use Rattle.std.specs.List.{All}
use Rattle.std.specs.Map.{values_of}
use Rattle.std.proofs.lemmas.Bool.{and_parts, and_from, false_from_ne_true, le-leb, leb-true}
use Rattle.tardis_base.specs.declared.ids.StateId.{StateId}
use Rattle.tardis_base.specs.declared.ids.Slot.{Slot}
use Rattle.tardis_base.specs.declared.records.Record.{Record}
use Rattle.tardis_base.specs.Ids.{is_among}
use Rattle.plain_dag.specs.States.{arrival}
use Rattle.plain_dag.specs.Above.{is_above}
use Rattle.plain_dag.specs.Floors.{is_above_ceilings}
use Rattle.plain_dag.specs.Collection.{kept_states}
use Rattle.plain_dag.proofs.Ids.{among-first, among-later}
use Rattle.plain_dag.proofs.Order.{ancestors-arrive-earlier}
use Rattle.plain_dag.proofs.Rising.{Rising, kept-rise}
use Rattle.state_dag.specs.Table.{Entry, Table, id_at, is_slot, arrival_at}
use Rattle.state_dag.specs.Stands.{Stands}
use Rattle.state_dag.proofs.Standing.{slots-arrive}
use Rattle.ceiling_book.specs.declared.parts.OpenSession.{OpenSession}
use Rattle.ceiling_book.specs.Book.{Book, session_of, sessions_of}
use Rattle.ceiling_book.specs.Places.{IsAt, IsSlotOf, AreSlots, ArePlaced}
use Rattle.ceiling_book.specs.Floors.{each_ceiling}
use Rattle.ceiling_book.proofs.Entries.{mapped}
use Rattle.ceiling_book.proofs.Moves.{first-at, rest-at}
use Rattle.ceiling_book.proofs.Newest.{last_passing, or_else}

-- each open ceiling has a slot of the table
slots-each : (table : Table) (es : List (ℕ × OpenSession)) → All (λ (s : OpenSession). IsSlotOf table s.ceiling) (values_of es) →
    IsTrue (each_ceiling (is_slot table) es)
slots-each table [] at = refl
slots-each table (e ∷ es) at =
    and_from (is_slot table e.1.ceiling.slot) (each_ceiling (is_slot table) es)
    (first-at (IsSlotOf table) (e ∷ es) es e.0 e.1 refl at) (slots-each table es (rest-at (IsSlotOf table) (e ∷ es) es e.0 e.1 refl at))

pub ceilings-are_slots : (book : Book) (table : Table) → AreSlots book table → IsTrue (each_ceiling (is_slot table) book.sessions)
ceilings-are_slots book table slots = slots-each table book.sessions slots.ceilings

-- a test that holds at each ceiling holds at the first, and at each of the rest
pub first-tested : (test : Slot → Bool) (all es : List (ℕ × OpenSession)) (n : ℕ) (s : OpenSession) → all ≡ (n, s) ∷ es → IsTrue (each_ceiling test all) →
    IsTrue (test s.ceiling.slot)
first-tested test all es n s is h = (and_parts (test s.ceiling.slot) (each_ceiling test es) (subst (λ z. IsTrue (each_ceiling test z)) is h)).0

pub rest-tested : (test : Slot → Bool) (all es : List (ℕ × OpenSession)) (n : ℕ) (s : OpenSession) → all ≡ (n, s) ∷ es → IsTrue (each_ceiling test all) →
    IsTrue (each_ceiling test es)
rest-tested test all es n s is h = (and_parts (test s.ceiling.slot) (each_ceiling test es) (subst (λ z. IsTrue (each_ceiling test z)) is h)).1

-- of a list that rises, what stands later is greater
pub rising-at : (f : StateId → ℕ) (xs : List StateId) (i j : ℕ) (d : StateId) → Rising f xs → i < j → j < length xs → f (get_or xs i d) < f (get_or xs j d)
rising-at f [] i j d up lt within = absurd (let bad : ⊥ = omega arith in bad)
rising-at f (x ∷ xs) zero zero d up lt within = absurd (let bad : ⊥ = omega arith in bad)
rising-at f (x ∷ xs) zero (suc j) d up lt within = up.0 (get_or xs j d) (there xs j (omega arith))
  where
    there : (ys : List StateId) (j : ℕ) → j < length ys → IsTrue (is_among (get_or ys j d) ys)
    there [] j lt = absurd (let bad : ⊥ = omega arith in bad)
    there (y ∷ ys) zero lt = among-first y ys
    there (y ∷ ys) (suc j) lt = among-later (get_or ys j d) y ys (there ys j (omega arith))
rising-at f (x ∷ xs) (suc i) zero d up lt within = absurd (let bad : ⊥ = omega arith in bad)
rising-at f (x ∷ xs) (suc i) (suc j) d up lt within = rising-at f xs i j d up.1 (omega arith) (omega arith)

module _ (table : Table) (rs : List Record) (ks : List StateId) (stands : Stands table rs ks) where
  -- x arrived no later than each ceiling that it is at or above
  none-earlier : (x : StateId) (es : List (ℕ × OpenSession)) → All (λ (s : OpenSession). IsAt table s.ceiling) (values_of es) →
      IsTrue (is_above_ceilings rs (mapped session_of es) x) → IsTrue (each_ceiling (λ s. leb (arrival rs x) (arrival_at table s)) es)
  none-earlier x [] at above = refl
  none-earlier x (e ∷ es) at above =
      let parts = and_parts (is_above rs x e.1.ceiling.state) (is_above_ceilings rs (mapped session_of es) x) above in
      let here = slots-arrive table rs ks stands e.1.ceiling.slot e.1.ceiling.state (first-at (IsAt table) (e ∷ es) es e.0 e.1 refl at) in
      let le : arrival rs x ≤ arrival rs e.1.ceiling.state = elim (ancestors-arrive-earlier rs stands.dag x e.1.ceiling.state parts.0) [
        | inl same ↦ (let is = ap (arrival rs) same in omega arith)
        | inr lt ↦ omega arith
      ] in
      and_from (leb (arrival rs x) (arrival_at table e.1.ceiling.slot)) (each_ceiling (λ s. leb (arrival rs x) (arrival_at table s)) es)
      (le-leb (arrival rs x) (arrival_at table e.1.ceiling.slot) (omega arith))
      (none-earlier x es (rest-at (IsAt table) (e ∷ es) es e.0 e.1 refl at) parts.1)

  -- the state at the place of a slot
  placed-state : (slot : Slot) (p : ℕ) (d : StateId) → ((e : Entry) → (get_or table.entries p e).slot ≡ slot) → p < length table.entries → id_at table slot
      ≡ Some (get_or (kept_states rs ks) p d)
  placed-state slot p d at within = go table.entries (kept_states rs ks) p stands.slots stands.ids at within
    where
      go : (es : List Entry) (xs : List StateId) (p : ℕ) → map (λ e. id_at table e.slot) es ≡ map (λ e. Some e.id) es → map (λ e. e.id) es ≡ xs →
          ((e : Entry) → (get_or es p e).slot ≡ slot) → p < length es → id_at table slot ≡ Some (get_or xs p d)
      go [] xs p slots ids at within = absurd (let bad : ⊥ = omega arith in bad)
      go (e ∷ es) [] p slots ids at within = absurd (let bad : ⊥ = cc in bad)
      go (e ∷ es) (x ∷ xs) zero slots ids at within =
          let named : id_at table e.slot ≡ Some e.id = cc in
          let is : e.id ≡ x = cc in
          ap (id_at table) (sym (at e)) ∙ named ∙ ap (λ z. Some z) is
      go (e ∷ es) (x ∷ xs) (suc p) slots ids at within = go es xs p (let rest = slots in cc) (let rest = ids in cc) at (omega arith)

  -- what arrived after an open ceiling isn't at or above every ceiling
  pub late : (book : Book) → ArePlaced book table rs ks → (slot : Slot) (p k : ℕ) (d : StateId) → ((e : Entry) → (get_or table.entries p e).slot ≡ slot) →
      p < length table.entries →
      ((test : Slot → Bool) → IsTrue (each_ceiling test book.sessions) → IsTrue (test slot)) → p < k → k < length (kept_states rs ks) →
      is_above_ceilings rs (sessions_of book) (get_or (kept_states rs ks) k d) ≡ false
  late book placed slot p k d at within tested lt end =
      let x = get_or (kept_states rs ks) k d in
      false_from_ne_true (is_above_ceilings rs (sessions_of book) x) (λ above.
      let no_later = leb-true (arrival rs x) (arrival_at table slot)
      (tested (λ s. leb (arrival rs x) (arrival_at table s)) (none-earlier x book.sessions placed.ceilings above)) in
      let there = slots-arrive table rs ks stands slot (get_or (kept_states rs ks) p d) (placed-state slot p d at within) in
      let later = rising-at (arrival rs) (kept_states rs ks) p k d (kept-rise rs ks stands.dag) lt end in
      omega arith)

-- where none passes from a place on, the last that passes stands before it
pub last-before : (p : StateId → Bool) (xs : List StateId) (n : ℕ) → ((k : ℕ) (d : StateId) → n ≤ k → k < length xs → p (get_or xs k d) ≡ false) →
    last_passing p xs ≡ last_passing p (take n xs)
last-before p [] zero fails = refl
last-before p [] (suc n) fails = refl
last-before p (x ∷ xs) zero fails =
    let rest = last-before p xs zero (λ k d le lt. fails (suc k) d (omega arith) (omega arith)) in
    let here = fails 0 x (omega arith) (omega arith) in
    rw (rest, here) refl
last-before p (x ∷ xs) (suc n) fails =
    ap (λ o. or_else o (if p x then Some x else None)) (last-before p xs n (λ k d le lt. fails (suc k) d (omega arith) (omega arith)))
