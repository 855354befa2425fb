-- The order that a table lends by seats.
use Rattle.std.proofs.Common.{◌≡◌, ℕ, true, Bool, IsTrue, sym, ap, ◌∙◌}
use Rattle.std.proofs.lemmas.Bool.{and_parts, eqb-true}
use Rattle.tardis_base.specs.declared.ids.Slot.{Slot}
use Rattle.version_list.specs.Notes.{same_slot}
use Rattle.version_list.specs.Seats.{Seating, seat_of, slot_of, is_seated}

same-from : (a b : Slot) → same_slot a b ≡ true → a ≡ b
same-from a b e = ap (λ n. let s : Slot = record { 0 = n } in s) (eqb-true a.0 b.0 e)

-- kept states that arrived together have one seat
pub seats-differ : (t : Seating) (kept : Slot → Bool) (arrival : Slot → ℕ)
    → ((a b : Slot) → IsTrue (kept a) → IsTrue (kept b) → arrival a ≡ arrival b → a ≡ b)
    → (a b : Slot) → IsTrue (is_seated t kept a) → IsTrue (is_seated t kept b) → arrival (slot_of t a) ≡ arrival (slot_of t b) → a ≡ b
seats-differ t kept arrival differ a b kept_a kept_b same =
    let one = and_parts (kept (slot_of t a)) (same_slot (seat_of t (slot_of t a)) a) kept_a in
    let two = and_parts (kept (slot_of t b)) (same_slot (seat_of t (slot_of t b)) b) kept_b in
    sym (same-from (seat_of t (slot_of t a)) a one.1)
    ∙ ap (seat_of t) (differ (slot_of t a) (slot_of t b) one.0 two.0 same)
    ∙ same-from (seat_of t (slot_of t b)) b two.1
