-- Entries of nodes in any slots: what stands where, whatever the slots' numbers.
use Rattle.std.proofs.Common.{◌≡◌, ℕ, suc, ◌+◌, ◌<◌, ◌≤◌, Bool, true, false, ◌||◌, eqb, ltb, List, [], ◌∷◌, ◌++◌, length, map, find, get_or, set, slice_get}
use Rattle.std.proofs.Common.{Some, None, is_some, inl, inr, refl, sym, ap, ap₂, subst, ◌∙◌, length-append, eqb-true, eq-eqb, arith}
use Rattle.std.specs.List.{list_all, cons_option}
use Rattle.std.specs.Option.{option_map}
use Rattle.std.proofs.lemmas.Bool.{and_parts, and_from, or_parts, cases_Bool, cases_lt, both_ways, false_from_ne_true, cond-true, cond-false, ltb-true}
use Rattle.std.proofs.lemmas.Bool.{lt-ltb, le-ltb, ne_eqb}
use Rattle.std.proofs.lemmas.List.{get_or-set_same, get_or-set_other, get_or_append_left, get_or_at, length-set}
use Rattle.std.proofs.lemmas.Option.{none-some, same_Some}
use Rattle.tardis_base.specs.declared.ids.Slot.{Slot}
use Rattle.tardis_base.specs.Ids.{same_id, is_among}
use Rattle.plain_dag.proofs.Ids.{same_id_from, same_id-true}
use Rattle.state_dag.specs.declared.nodes.Node.{Node}
use Rattle.state_dag.specs.Table.{Entry, entry_at, arrive_in_order}
use Rattle.state_dag.specs.Views.{entry_of, entries_in}
use Rattle.state_dag.specs.Grown.{is_slot_among}
use Rattle.state_dag.specs.Nodes.{table_of, with_node, AreDistinct}
use Rattle.state_dag.specs.Answers.{next_of, slot_after}
use Rattle.state_dag.proofs.Places.{AllDiffer, entry-found}
use Rattle.state_dag.proofs.LeafSlots.{AreFound}

-- ===== Entries in any order of slots

abbrev pub slots_of : List Entry → List Slot
slots_of es = map (λ e. e.slot) es

-- a slot that is found is that of an entry at some place
pub place-of : (es : List Entry) (k : ℕ) → is_some (find (λ e. eqb e.slot.0 k) es) ≡ true → (i : ℕ) × (i < length es)
    × ((d : Entry) → (get_or es i d).slot.0 ≡ k)
place-of [] k there = absurd (both_ways false refl there)
place-of (e ∷ es) k there = elim (cases_Bool (eqb e.slot.0 k)) [
  | inl t ↦ (0, omega arith, λ d. eqb-true e.slot.0 k t)
  | inr f ↦ (let w = place-of es k (rw f at there) in (suc w.0, omega arith, λ d. w.2 d))
]

-- what is found passes what all pass
pub all-found : (test : Entry → Bool) (es : List Entry) (k : ℕ) (e : Entry) → find (λ f. eqb f.slot.0 k) es ≡ Some e → list_all test es ≡ true → test e ≡ true
all-found test [] k e is all = absurd (none-some e is)
all-found test (f ∷ es) k e is all =
    let parts = and_parts (test f) (list_all test es) all in
    elim (cases_Bool (eqb f.slot.0 k)) [
      | inl t ↦ subst (λ g. test g ≡ true) (same_Some f e (rw t at is)) parts.0
      | inr n ↦ all-found test es k e (rw n at is) parts.1
    ]

among-at : (es : List Entry) (i : ℕ) (d : Entry) → i < length es → is_slot_among (get_or es i d).slot (slots_of es) ≡ true
among-at [] i d lt = absurd (omega arith)
among-at (e ∷ es) ℕ.zero d lt = rw (eq-eqb e.slot.0 e.slot.0 refl) refl
among-at (e ∷ es) (ℕ.suc i) d lt = go (eqb e.slot.0 (get_or es i d).slot.0) (among-at es i d (omega arith))
  where
    go : (b : Bool) {c : Bool} → c ≡ true → (b || c) ≡ true
    go true t = refl
    go false t = t

other-slot : (e : Entry) (es : List Entry) (i : ℕ) (d : Entry) → is_slot_among e.slot (slots_of es) ≡ false → i < length es →
    eqb e.slot.0 (get_or es i d).slot.0 ≡ false
other-slot e es i d out lt = ne_eqb e.slot.0 (get_or es i d).slot.0 (λ same.
    let named : ℕ → Slot = λ n. record { 0 = n } in
    both_ways (is_slot_among e.slot (slots_of es)) out (subst (λ s. is_slot_among s (slots_of es) ≡ true) (ap named (sym same)) (among-at es i d lt)))

-- where slots differ each entry is found at its slot
pub found-at : (es : List Entry) → AreDistinct (slots_of es) → (i : ℕ) (d : Entry) → i < length es → find (λ e. eqb e.slot.0 (get_or es i d).slot.0) es
    ≡ Some (get_or es i d)
found-at [] distinct i d lt = absurd (omega arith)
found-at (e ∷ es) distinct ℕ.zero d lt = rw (eq-eqb e.slot.0 e.slot.0 refl) refl
found-at (e ∷ es) distinct (ℕ.suc i) d lt = rw (other-slot e es i d distinct.0 (omega arith)) (found-at es distinct.1 i d (omega arith))

-- and the slot behind one is that of the next
pub slot-behind : (es : List Entry) → AreDistinct (slots_of es) → (i j : ℕ) (d : Entry) → j ≡ i + 1 → i < length es →
    slot_after es (Some (get_or es i d).slot) ≡ option_map (λ e. e.slot) (slice_get es j)
slot-behind [] distinct i j d next lt = absurd (omega arith)
slot-behind (e ∷ es) distinct i ℕ.zero d next lt = absurd (omega arith)
slot-behind (e ∷ es) distinct ℕ.zero (ℕ.suc j) d next lt =
    let first : 0 ≡ j = omega arith in
    rw (eq-eqb e.slot.0 e.slot.0 refl) (ap (λ (m : ℕ). option_map (λ (f : Entry). f.slot) (slice_get es m)) first)
slot-behind (e ∷ es) distinct (ℕ.suc i) (ℕ.suc j) d next lt =
    rw (other-slot e es i d distinct.0 (omega arith)) (slot-behind es distinct.1 i j d (omega arith) (omega arith))

named-among : (es : List Entry) (i : ℕ) (d : Entry) → i < length es → is_among (get_or es i d).id (map (λ e. e.id) es) ≡ true
named-among [] i d lt = absurd (omega arith)
named-among (e ∷ es) ℕ.zero d lt = rw (same_id_from e.id e.id refl) refl
named-among (e ∷ es) (ℕ.suc i) d lt = go (same_id (get_or es i d).id e.id) (named-among es i d (omega arith))
  where
    go : (b : Bool) {c : Bool} → c ≡ true → (b || c) ≡ true
    go true t = refl
    go false t = t

-- where ids differ, the id behind one is that of the next entry
pub id-behind : (es : List Entry) → AllDiffer (map (λ e. e.id) es) → (i j : ℕ) (d : Entry) → j ≡ i + 1 → i < length es →
    next_of (map (λ e. e.id) es) (Some (get_or es i d).id) ≡ option_map (λ e. e.id) (slice_get es j)
id-behind [] differ i j d next lt = absurd (omega arith)
id-behind (e ∷ es) differ i ℕ.zero d next lt = absurd (omega arith)
id-behind (e ∷ es) differ ℕ.zero (ℕ.suc j) d next lt =
    let first : 0 ≡ j = omega arith in
    rw (same_id_from e.id e.id refl) (first-id es ∙ ap (λ (m : ℕ). option_map (λ (f : Entry). f.id) (slice_get es m)) first)
  where
    first-id : (fs : List Entry) → slice_get (map (λ f. f.id) fs) 0 ≡ option_map (λ f. f.id) (slice_get fs 0)
    first-id [] = refl
    first-id (f ∷ fs) = refl
id-behind (e ∷ es) differ (ℕ.suc i) (ℕ.suc j) d next lt =
    let y = (get_or es i d).id in
    let apart : same_id e.id y ≡ false = false_from_ne_true (same_id e.id y) (λ t.
    both_ways (is_among e.id (map (λ (f : Entry). f.id) es)) differ.0
    (subst (λ z. is_among z (map (λ (f : Entry). f.id) es) ≡ true) (sym (same_id-true e.id y t)) (named-among es i d (omega arith)))) in
    let turned : same_id y e.id ≡ false = false_from_ne_true (same_id y e.id)
    (λ t. both_ways (same_id e.id y) apart (same_id_from e.id y (sym (same_id-true y e.id t)))) in
    rw turned (id-behind es differ.1 i j d (omega arith) (omega arith))

-- of entries in order an earlier one arrived before a later one
pub arrives-before : (es : List Entry) (i j : ℕ) (d : Entry) → arrive_in_order es ≡ true → i < j → j < length es → (get_or es i d).arrival
    < (get_or es j d).arrival
arrives-before [] i j d up less lt = absurd (omega arith)
arrives-before (e ∷ es) i ℕ.zero d up less lt = absurd (omega arith)
arrives-before (e ∷ []) i (ℕ.suc j) d up less lt = absurd (omega arith)
arrives-before (e ∷ f ∷ es) ℕ.zero (ℕ.suc ℕ.zero) d up less lt =
    ltb-true e.arrival f.arrival (and_parts (ltb e.arrival f.arrival) (arrive_in_order (f ∷ es)) up).0
arrives-before (e ∷ f ∷ es) ℕ.zero (ℕ.suc (ℕ.suc j)) d up less lt =
    let parts = and_parts (ltb e.arrival f.arrival) (arrive_in_order (f ∷ es)) up in
    let first = ltb-true e.arrival f.arrival parts.0 in
    let rest = arrives-before (f ∷ es) 0 (suc j) d parts.1 (omega arith) (omega arith) in
    omega arith
arrives-before (e ∷ f ∷ es) (ℕ.suc i) (ℕ.suc j) d up less lt =
    arrives-before (f ∷ es) i j d (and_parts (ltb e.arrival f.arrival) (arrive_in_order (f ∷ es)) up).1 (omega arith) (omega arith)

-- ===== Entries of the nodes in some slots

read-at : (ns : List Node) (k : ℕ) (d : Node) → k < length ns → slice_get ns k ≡ Some (get_or ns k d)
read-at [] k d lt = absurd (omega arith)
read-at (n ∷ ns) ℕ.zero d lt = refl
read-at (n ∷ ns) (ℕ.suc k) d lt = read-at ns k d (omega arith)

-- each slot is the place of a node
abbrev pub placed : List Node → List Slot → Bool
placed ns slots = list_all (λ s. ltb s.0 (length ns)) slots

pub place-read : (ns : List Node) (k : ℕ) → k < length ns → (n : Node) × (slice_get ns k ≡ Some n) × ((d : Node) → get_or ns k d ≡ n)
place-read [] k lt = absurd (omega arith)
place-read (n ∷ ns) ℕ.zero lt = (n, refl, λ d. refl)
place-read (n ∷ ns) (ℕ.suc k) lt = place-read ns k (omega arith)

-- the first entry is that of the first slot's node
pub first-read : (ns : List Node) (s : Slot) (slots : List Slot) → s.0 < length ns → (n : Node)
    × (entries_in ns (s ∷ slots) ≡ entry_of s.0 n ∷ entries_in ns slots) × ((d : Node) → get_or ns s.0 d ≡ n)
first-read ns s slots lt =
    let w = place-read ns s.0 lt in
    (w.0, ap (λ o. cons_option (option_map (entry_of s.0) o) (entries_in ns slots)) w.1, w.2)

-- the entries have these slots, in this order
pub slots-in : (ns : List Node) (slots : List Slot) → placed ns slots ≡ true → slots_of (entries_in ns slots) ≡ slots
slots-in ns [] all = refl
slots-in ns (s ∷ slots) all =
    let parts = and_parts (ltb s.0 (length ns)) (placed ns slots) all in
    let w = first-read ns s slots (ltb-true s.0 (length ns) parts.0) in
    ap slots_of w.1 ∙ ap (λ ss. s ∷ ss) (slots-in ns slots parts.1)

-- a slot that is none of these has none
pub found-none : (ns : List Node) (slots : List Slot) (k : ℕ) → placed ns slots ≡ true → is_slot_among (record { 0 = k }) slots ≡ false →
    find (λ e. eqb e.slot.0 k) (entries_in ns slots) ≡ None
found-none ns [] k all out = refl
found-none ns (s ∷ slots) k all out =
    let parts = and_parts (ltb s.0 (length ns)) (placed ns slots) all in
    let others = or_parts (eqb s.0 k) (is_slot_among (record { 0 = k }) slots) out in
    let w = first-read ns s slots (ltb-true s.0 (length ns) parts.0) in
    ap (find (λ e. eqb e.slot.0 k)) w.1 ∙ rw others.0 (found-none ns slots k parts.1 others.1)

-- each of these is found
pub found-some : (ns : List Node) (slots : List Slot) (k : ℕ) → placed ns slots ≡ true → is_slot_among (record { 0 = k }) slots ≡ true →
    is_some (find (λ e. eqb e.slot.0 k) (entries_in ns slots)) ≡ true
found-some ns [] k all there = absurd (both_ways false refl there)
found-some ns (s ∷ slots) k all there =
    let parts = and_parts (ltb s.0 (length ns)) (placed ns slots) all in
    let w = first-read ns s slots (ltb-true s.0 (length ns) parts.0) in
    ap (λ es. is_some (find (λ e. eqb e.slot.0 k) es)) w.1
    ∙ elim (cases_Bool (eqb s.0 k)) [
      | inl t ↦ rw t refl
      | inr f ↦ rw f (found-some ns slots k parts.1 (rw f at there))
    ]

-- and is a place
pub among-placed : (ns : List Node) (slots : List Slot) (k : ℕ) → placed ns slots ≡ true → is_slot_among (record { 0 = k }) slots ≡ true → k < length ns
among-placed ns [] k all there = absurd (both_ways false refl there)
among-placed ns (s ∷ slots) k all there =
    let parts = and_parts (ltb s.0 (length ns)) (placed ns slots) all in
    elim (cases_Bool (eqb s.0 k)) [
      | inl t ↦ (let lt = ltb-true s.0 (length ns) parts.0 in let same = eqb-true s.0 k t in omega arith)
      | inr f ↦ among-placed ns slots k parts.1 (rw f at there)
    ]

-- among all nodes each entry is found at its slot
pub found-places : (ns : List Node) (slots : List Slot) → placed ns slots ≡ true → AreFound (table_of ns) (entries_in ns slots)
found-places ns [] all k d lt = absurd (omega arith)
found-places ns (s ∷ slots) all k d lt =
    let parts = and_parts (ltb s.0 (length ns)) (placed ns slots) all in
    let here = ltb-true s.0 (length ns) parts.0 in
    let w = first-read ns s slots here in
    subst (λ (es : List Entry). k < length es → entry_at (table_of ns) (get_or es k d).slot ≡ Some (get_or es k d)) (sym w.1)
    (go w.0 (entry-found ns s.0 w.0 here ∙ ap (λ (m : Node). Some (entry_of s.0 m)) (w.2 w.0)) (found-places ns slots parts.1) k) lt
  where
    go : (n : Node) → entry_at (table_of ns) s ≡ Some (entry_of s.0 n) → AreFound (table_of ns) (entries_in ns slots) → (i : ℕ) →
        i < length (entry_of s.0 n ∷ entries_in ns slots) →
        entry_at (table_of ns) (get_or (entry_of s.0 n ∷ entries_in ns slots) i d).slot ≡ Some (get_or (entry_of s.0 n ∷ entries_in ns slots) i d)
    go n is rest ℕ.zero less = is
    go n is rest (ℕ.suc i) less = rest i d (omega arith)

module _ (ns : List Node) (d : Node) where
  pub entries-first : (s : Slot) (slots : List Slot) → s.0 < length ns → entries_in ns (s ∷ slots) ≡ entry_of s.0 (get_or ns s.0 d) ∷ entries_in ns slots
  entries-first s slots lt = ap (λ o. cons_option (option_map (entry_of s.0) o) (entries_in ns slots)) (read-at ns s.0 d lt)

  -- one of these slots has its node's entry
  pub found-in : (slots : List Slot) (k : ℕ) → placed ns slots ≡ true → is_slot_among (record { 0 = k }) slots ≡ true →
      find (λ e. eqb e.slot.0 k) (entries_in ns slots) ≡ Some (entry_of k (get_or ns k d))
  found-in [] k all there = absurd (both_ways false refl there)
  found-in (s ∷ slots) k all there =
      let parts = and_parts (ltb s.0 (length ns)) (placed ns slots) all in
      ap (find (λ e. eqb e.slot.0 k)) (entries-first s slots (ltb-true s.0 (length ns) parts.0))
      ∙ elim (cases_Bool (eqb s.0 k)) [
        | inl t ↦ rw t (ap (λ m. Some (entry_of m (get_or ns m d))) (eqb-true s.0 k t))
        | inr f ↦ rw f (found-in slots k parts.1 (rw f at there))
      ]

  -- one more slot has one more entry, the last
  pub entries-put : (slots : List Slot) (s : Slot) → placed ns slots ≡ true → s.0 < length ns → entries_in ns (slots ++ s ∷ []) ≡ entries_in ns slots
      ++ entry_of s.0 (get_or ns s.0 d) ∷ []
  entries-put [] s all lt = entries-first s [] lt
  entries-put (t ∷ slots) s all lt =
      let parts = and_parts (ltb t.0 (length ns)) (placed ns slots) all in
      let in_place = ltb-true t.0 (length ns) parts.0 in
      entries-first t (slots ++ s ∷ []) in_place ∙ ap (λ es. entry_of t.0 (get_or ns t.0 d) ∷ es) (entries-put slots s parts.1 lt)
      ∙ ap (λ es. es ++ entry_of s.0 (get_or ns s.0 d) ∷ []) (sym (entries-first t slots in_place))

-- a node put in a slot that is none of these leaves their entries
pub entries-stay : (ns : List Node) (d n : Node) (slots : List Slot) (k : ℕ) → placed ns slots ≡ true → is_slot_among (record { 0 = k }) slots ≡ false →
    entries_in (set ns k n) slots ≡ entries_in ns slots
entries-stay ns d n [] k all out = refl
entries-stay ns d n (s ∷ slots) k all out =
    let parts = and_parts (ltb s.0 (length ns)) (placed ns slots) all in
    let others = or_parts (eqb s.0 k) (is_slot_among (record { 0 = k }) slots) out in
    let here = ltb-true s.0 (length ns) parts.0 in
    let same = length-set ns k n in
    let other : s.0 ≡ k → ⊥ = λ e. both_ways (eqb s.0 k) others.0 (eq-eqb s.0 k e) in
    entries-first (set ns k n) d s slots (omega arith)
    ∙ ap₂ (λ (m : Node) (es : List Entry). entry_of s.0 m ∷ es) (get_or-set_other ns k s.0 n d other) (entries-stay ns d n slots k parts.1 others.1)
    ∙ sym (entries-first ns d s slots here)

-- nor does a node put behind all
pub entries-before : (ns : List Node) (n : Node) (slots : List Slot) → placed ns slots ≡ true → entries_in (ns ++ n ∷ []) slots ≡ entries_in ns slots
entries-before ns n [] all = refl
entries-before ns n (s ∷ slots) all =
    let parts = and_parts (ltb s.0 (length ns)) (placed ns slots) all in
    let here = ltb-true s.0 (length ns) parts.0 in
    let long = length-append ns (n ∷ []) in
    entries-first (ns ++ n ∷ []) n s slots (omega arith)
    ∙ ap₂ (λ (m : Node) (es : List Entry). entry_of s.0 m ∷ es) (get_or_append_left ns (n ∷ []) n s.0 here) (entries-before ns n slots parts.1)
    ∙ sym (entries-first ns n s slots here)

-- ===== A node in a slot that is new or free

pub placed-wider : (m n : ℕ) (slots : List Slot) → m ≤ n → list_all (λ s. ltb s.0 m) slots ≡ true → list_all (λ s. ltb s.0 n) slots ≡ true
placed-wider m n [] le all = refl
placed-wider m n (s ∷ slots) le all =
    let parts = and_parts (ltb s.0 m) (list_all (λ (t : Slot). ltb t.0 m) slots) all in
    let lt = ltb-true s.0 m parts.0 in
    and_from (ltb s.0 n) (list_all (λ (t : Slot). ltb t.0 n) slots) (lt-ltb s.0 n (omega arith)) (placed-wider m n slots le parts.1)

module _ (ns : List Node) (n : Node) (slots : List Slot) (s : Slot) (all : placed ns slots ≡ true) (out : is_slot_among s slots ≡ false)
    (le : s.0 ≤ length ns) where
  pub entries-next : entries_in (with_node ns s.0 n) (slots ++ s ∷ []) ≡ entries_in ns slots ++ entry_of s.0 n ∷ []
  entries-next = elim (cases_lt s.0 (length ns)) [
    | inl lt ↦
        let is : with_node ns s.0 n ≡ set ns s.0 n = cond-true (ltb s.0 (length ns)) (set ns s.0 n) (ns ++ n ∷ []) (lt-ltb s.0 (length ns) lt) in
        let long = length-set ns s.0 n in
        ap (λ ms. entries_in ms (slots ++ s ∷ [])) is
        ∙ entries-put (set ns s.0 n) n slots s (placed-wider (length ns) (length (set ns s.0 n)) slots (omega arith) all) (omega arith)
        ∙ ap₂ (λ (es : List Entry) (m : Node). es ++ entry_of s.0 m ∷ []) (entries-stay ns n n slots s.0 all out) (get_or-set_same ns s.0 n n lt)
    | inr ge ↦
        let is : with_node ns s.0 n ≡ ns ++ n ∷ [] = cond-false (ltb s.0 (length ns)) (set ns s.0 n) (ns ++ n ∷ []) (le-ltb s.0 (length ns) ge) in
        let long = length-append ns (n ∷ []) in
        ap (λ ms. entries_in ms (slots ++ s ∷ [])) is
        ∙ entries-put (ns ++ n ∷ []) n slots s (placed-wider (length ns) (length (ns ++ n ∷ [])) slots (omega arith) all) (omega arith)
        ∙ ap₂ (λ (es : List Entry) (m : Node). es ++ entry_of s.0 m ∷ []) (entries-before ns n slots all) (get_or_at ns n [] n s.0 (omega arith))
  ]
