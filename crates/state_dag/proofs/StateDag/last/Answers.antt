use Rattle.std.proofs.Common.{◌≡◌, ◌∙◌, ◌-◌, ℕ, List, true, get_or, length, Option, Some, None, sym, ap, subst, arith}
use Rattle.std.specs.Option.{option_map}
use Rattle.std.proofs.lemmas.Option.{slice_get_past}
use Rattle.tardis_base.specs.declared.ids.Slot.{Slot}
use Rattle.state_dag.specs.Table.{Entry, Table, id_at, is_slot}
use Rattle.state_dag.specs.Stands.{Stands}
use Rattle.plain_dag.specs.Begin.{last_arrived}
use Rattle.state_dag.specs.Answers.{slot_after}
use Rattle.state_dag.specs.Held.{kept_of, seen, IsHeld}
use Rattle.state_dag.specs.declared.StateDag.TheInside.{Inside}
use Rattle.state_dag.proofs.KeptEntries.{slot-behind}
use Rattle.state_dag.proofs.Memory.{kept-slots, entries-long, entries-apart, found-all, kept-long, kept-now}
use Rattle.state_dag.proofs.Calls.{no_entry, slot-of_entry, named-is_slot, named-entry, last-is}
use Rattle.state_dag.proofs.StateDag.last.Goals as goal

pub last_slot-requires : goal.last_slot-requires
last_slot-requires c =
    let a = c.self.inside in
    let some = c.self.invariant.some in
    let long = kept-long a c.self.invariant in
    let lent = ap length (c.kept.ensures ∙ kept-now a c.self.invariant) in
    omega arith

-- the slot is that of the last entry
last-slot : (a : Inside) (held : IsHeld a) (lent : List Slot) (s : Slot) → lent ≡ kept_of a → s ≡ get_or lent (length lent - 1) s →
    (get_or (seen a).entries (a.kept - 1) no_entry).slot ≡ s
last-slot a held lent s all is =
    let k = a.kept - 1 in
    let some = held.some in
    let long = entries-long a held in
    let whole = kept-long a held in
    let as_long = ap length all in
    let at_end : length lent - 1 ≡ k = omega arith in
    sym (slot-of_entry (seen a).entries k no_entry s (omega arith)) ∙ ap (λ ss. get_or ss k s) (kept-slots a held ∙ sym all)
    ∙ ap (λ (n : ℕ). get_or lent n s) (sym at_end) ∙ sym is

pub returns-clause-slot : goal.returns-clause-slot
returns-clause-slot c =
    let a = c.self.inside in
    let some = c.self.invariant.some in
    let long = entries-long a c.self.invariant in
    subst (λ t. is_slot t c.last_slot.result ≡ true) c.self.view_is
    (subst (λ s. is_slot (seen a) s ≡ true) (last-slot a c.self.invariant c.kept.result.now c.last_slot.result (c.kept.ensures ∙ kept-now a c.self.invariant) c.last_slot.ensures)
    (named-is_slot (seen a) (get_or (seen a).entries (a.kept - 1) no_entry).slot (get_or (seen a).entries (a.kept - 1) no_entry).id
    (named-entry (seen a) (a.kept - 1) no_entry (found-all a c.self.invariant) (omega arith))))

pub returns-clause-end : goal.returns-clause-end
returns-clause-end c =
    let a = c.self.inside in
    let some = c.self.invariant.some in
    let long = entries-long a c.self.invariant in
    subst (λ (t : Table). ◌≡◌ {A = Option Slot} (slot_after t.entries (Some c.last_slot.result)) None) c.self.view_is
    (subst (λ s. ◌≡◌ {A = Option Slot} (slot_after (seen a).entries (Some s)) None) (last-slot a c.self.invariant c.kept.result.now c.last_slot.result (c.kept.ensures ∙ kept-now a c.self.invariant) c.last_slot.ensures)
    (slot-behind (seen a).entries (entries-apart a c.self.invariant) (a.kept - 1) a.kept no_entry (omega arith) (omega arith)
    ∙ ap (option_map (λ (e : Entry). e.slot)) (slice_get_past (seen a).entries a.kept (omega arith))))

pub returns-clause-last : goal.returns-clause-last
returns-clause-last c = λ rs ks stands.
    let a = c.self.inside in
    let some = c.self.invariant.some in
    let long = entries-long a c.self.invariant in
    let there = subst (λ t. Stands t rs ks) (sym c.self.view_is) stands in
    subst (λ t. id_at t c.last_slot.result ≡ Some (last_arrived rs)) c.self.view_is
    (subst (λ s. id_at (seen a) s ≡ Some (last_arrived rs)) (last-slot a c.self.invariant c.kept.result.now c.last_slot.result (c.kept.ensures ∙ kept-now a c.self.invariant) c.last_slot.ensures)
    (named-entry (seen a) (a.kept - 1) no_entry (found-all a c.self.invariant) (omega arith)
    ∙ ap (λ z. Some z) (last-is (seen a) rs ks (a.kept - 1) no_entry there (omega arith))))
