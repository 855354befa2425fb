-- What the memory keeps in the slots of kept states.
use Rattle.std.proofs.Common.{◌≡◌, ℕ, ◌<◌, Bool, true, false, eqb, ltb, List, [], ◌∷◌, length, take, get_or, Some, is_some, inl, inr, refl, sym, ap, subst}
use Rattle.std.proofs.Common.{◌∙◌, arith}
use Rattle.std.specs.List.{list_all}
use Rattle.std.proofs.lemmas.Bool.{and_parts, and_from, or_parts, or_from, cases_Bool, lt-ltb, both_ways}
use Rattle.std.proofs.lemmas.List.{length-map, length-take}
use Rattle.tardis_base.specs.declared.ids.Slot.{Slot}
use Rattle.state_dag.specs.declared.StateDag.TheInside.{Inside}
use Rattle.state_dag.specs.declared.nodes.Node.{Node}
use Rattle.state_dag.specs.Table.{entry_at, is_slot, arrival_at}
use Rattle.state_dag.specs.Views.{entry_of}
use Rattle.state_dag.specs.Grown.{is_slot_among}
use Rattle.state_dag.specs.Nodes.{table_of, AreDistinct, Rise}
use Rattle.state_dag.specs.Held.{kept_of, seen, IsHeld}
use Rattle.state_dag.proofs.LeafSlots.{AreFound, slots-rise}
use Rattle.state_dag.proofs.Places.{entry-found}
use Rattle.state_dag.proofs.KeptEntries.{slots_of, placed, slots-in, found-in, found-none, found-some, among-placed, found-at, found-places}

-- ===== The first of a list

pub take-all : (test : Slot → Bool) (k : ℕ) (xs : List Slot) → list_all test xs ≡ true → list_all test (take k xs) ≡ true
take-all test ℕ.zero xs all = refl
take-all test (ℕ.suc k) [] all = refl
take-all test (ℕ.suc k) (x ∷ xs) all =
    let parts = and_parts (test x) (list_all test xs) all in
    and_from (test x) (list_all test (take k xs)) parts.0 (take-all test k xs parts.1)

pub take-out : (s : Slot) (k : ℕ) (xs : List Slot) → is_slot_among s xs ≡ false → is_slot_among s (take k xs) ≡ false
take-out s ℕ.zero xs out = refl
take-out s (ℕ.suc k) [] out = refl
take-out s (ℕ.suc k) (x ∷ xs) out =
    let parts = or_parts (eqb x.0 s.0) (is_slot_among s xs) out in
    or_from (eqb x.0 s.0) (is_slot_among s (take k xs)) parts.0 (take-out s k xs parts.1)

pub take-distinct : (k : ℕ) (xs : List Slot) → AreDistinct xs → AreDistinct (take k xs)
take-distinct ℕ.zero xs d = tt
take-distinct (ℕ.suc k) [] d = tt
take-distinct (ℕ.suc k) (x ∷ xs) d = (take-out x k xs d.0, take-distinct k xs d.1)

pub take-read : (k : ℕ) (xs : List Slot) (i : ℕ) (d : Slot) → i < k → get_or (take k xs) i d ≡ get_or xs i d
take-read ℕ.zero xs i d lt = absurd (omega arith)
take-read (ℕ.suc k) [] i d lt = refl
take-read (ℕ.suc k) (x ∷ xs) ℕ.zero d lt = refl
take-read (ℕ.suc k) (x ∷ xs) (ℕ.suc i) d lt = take-read k xs i d (omega arith)

-- ===== Kept slots

module _ (a : Inside) (held : IsHeld a) where
  pub kept-placed : placed a.nodes.items (kept_of a) ≡ true
  kept-placed = take-all (λ s. ltb s.0 (length a.nodes.items)) a.kept a.order.items held.placed

  pub kept-distinct : AreDistinct (kept_of a)
  kept-distinct = take-distinct a.kept a.order.items held.distinct

  pub kept-long : length (kept_of a) ≡ a.kept
  kept-long = (let inside = held.inside in let long = length-take a.kept a.order.items in omega arith)

  -- so many slots are in use
  pub kept-now : take a.order.used a.order.items ≡ kept_of a
  kept-now = ap (λ (n : ℕ). take n a.order.items) held.used

  -- the entries have these slots
  pub kept-slots : slots_of (seen a).entries ≡ kept_of a
  kept-slots = slots-in a.nodes.items (kept_of a) kept-placed

  pub entries-long : length (seen a).entries ≡ a.kept
  entries-long = sym (length-map (seen a).entries (λ e. e.slot)) ∙ ap length kept-slots ∙ kept-long

  pub entries-apart : AreDistinct (slots_of (seen a).entries)
  entries-apart = subst AreDistinct (sym kept-slots) kept-distinct

  -- each entry is found at its slot, in the table and among all nodes
  pub found-all : AreFound (seen a) (seen a).entries
  found-all = λ i d lt. found-at (seen a).entries entries-apart i d lt

  pub found-nodes : AreFound (table_of a.nodes.items) (seen a).entries
  found-nodes = found-places a.nodes.items (kept_of a) kept-placed

  -- the slots rise by arrival
  pub kept-rise : Rise (arrival_at (table_of a.nodes.items)) (kept_of a)
  kept-rise = subst (Rise (arrival_at (table_of a.nodes.items))) kept-slots (slots-rise (table_of a.nodes.items) (seen a).entries found-nodes held.in_order)

  -- a slot of the table is a kept one, and each kept one is a slot of the table
  pub slot-kept : (s : Slot) → is_slot (seen a) s ≡ true → is_slot_among s (kept_of a) ≡ true
  slot-kept s there = elim (cases_Bool (is_slot_among s (kept_of a))) [
    | inl t ↦ t
    | inr f ↦ absurd (both_ways (is_slot (seen a) s) (ap is_some (found-none a.nodes.items (kept_of a) s.0 kept-placed f)) there)
  ]

  pub kept-slot : (s : Slot) → is_slot_among s (kept_of a) ≡ true → is_slot (seen a) s ≡ true
  kept-slot s there = found-some a.nodes.items (kept_of a) s.0 kept-placed there

  pub slot-place : (s : Slot) → is_slot (seen a) s ≡ true → s.0 < length a.nodes.items
  slot-place s there = among-placed a.nodes.items (kept_of a) s.0 kept-placed (slot-kept s there)

  -- its entry is that of its node
  pub entry-kept : (s : Slot) (d : Node) → is_slot (seen a) s ≡ true → entry_at (seen a) s ≡ Some (entry_of s.0 (get_or a.nodes.items s.0 d))
  entry-kept s d there = found-in a.nodes.items d (kept_of a) s.0 kept-placed (slot-kept s there)

  pub entry-alike : (s : Slot) → is_slot (seen a) s ≡ true → entry_at (table_of a.nodes.items) s ≡ entry_at (seen a) s
  entry-alike s there = go a.nodes.items refl
    where
      go : (ns : List Node) → a.nodes.items ≡ ns → entry_at (table_of a.nodes.items) s ≡ entry_at (seen a) s
      go [] e = (let place = slot-place s there in let none = ap length e in absurd (omega arith))
      go (n ∷ ns) e = entry-found a.nodes.items s.0 n (slot-place s there) ∙ sym (entry-kept s n there)

  pub slots-placed : (slots : List Slot) → list_all (is_slot (seen a)) slots ≡ true → placed a.nodes.items slots ≡ true
  slots-placed [] all = refl
  slots-placed (s ∷ slots) all =
      let parts = and_parts (is_slot (seen a) s) (list_all (is_slot (seen a)) slots) all in
      and_from (ltb s.0 (length a.nodes.items)) (placed a.nodes.items slots) (lt-ltb s.0 (length a.nodes.items) (slot-place s parts.0))
      (slots-placed slots parts.1)
