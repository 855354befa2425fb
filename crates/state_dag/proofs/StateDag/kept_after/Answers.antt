use Rattle.std.proofs.Common.{◌≡◌, ◌∙◌, ◌+◌, get_or, slice_get, Some, sym, ap, arith}
use Rattle.std.specs.Option.{option_map, option_and_then}
use Rattle.std.proofs.lemmas.Option.{same_Some}
use Rattle.plain_dag.specs.Collection.{kept_states}
use Rattle.state_dag.specs.Table.{Entry, id_at, is_slot}
use Rattle.state_dag.specs.Answers.{next_of, slot_after}
use Rattle.state_dag.proofs.KeptEntries.{slot-behind}
use Rattle.state_dag.proofs.Calls.{no_entry, entries-found, entries-distinct, read-entry, read-is, first-is, next-is, named-entry}
use Rattle.state_dag.proofs.StateDag.kept_after.Goals as goal

pub returns-in-None-clause-slots : goal.returns-in-None-clause-slots
returns-in-None-clause-slots c = read-is (is_slot c.args.self.now) c.kept_slots.result.now 0 c.slot_at.result c.kept_slots.ensures.slots c.slot_at.ensures

pub returns-in-None-clause-is : goal.returns-in-None-clause-is
returns-in-None-clause-is c =
    c.slot_at.ensures ∙ ap (λ ss. slice_get ss 0) c.kept_slots.ensures.is ∙ read-entry c.args.self.now.entries 0
    ∙ ap (slot_after c.args.self.now.entries) (sym c.in-None.is)

pub returns-in-None-clause-first : goal.returns-in-None-clause-first
returns-in-None-clause-first c = λ none rs ks stands.
    let table = c.args.self.now in
    ap (option_and_then (id_at table)) (c.slot_at.ensures ∙ ap (λ ss. slice_get ss 0) c.kept_slots.ensures.is ∙ read-entry table.entries 0)
    ∙ first-is table rs ks stands (entries-found c.self.inside table c.self.invariant c.self.view_is)

pub returns-in-Some-clause-slots : goal.returns-in-Some-clause-slots
returns-in-Some-clause-slots c =
    read-is (is_slot c.args.self.now) c.kept_slots-in-Some.result.now (c.place-place.result + 1) c.slot_at-in-Some.result
    c.kept_slots-in-Some.ensures.slots c.slot_at-in-Some.ensures

read-next : (c : goal.After-slot_at-in-Some) → c.slot_at-in-Some.result
    ≡ option_map (λ (e : Entry). e.slot) (slice_get c.args.self.now.entries (c.place-place.result + 1))
read-next c = c.slot_at-in-Some.ensures ∙ ap (λ ss. slice_get ss (c.place-place.result + 1)) c.kept_slots-in-Some.ensures.is
    ∙ read-entry c.args.self.now.entries (c.place-place.result + 1)

pub returns-in-Some-clause-is : goal.returns-in-Some-clause-is
returns-in-Some-clause-is c =
    let es = c.args.self.now.entries in
    let p = c.place-place.result in
    read-next c ∙ sym (slot-behind es (entries-distinct c.self.inside c.args.self.now c.self.invariant c.self.view_is) p (p + 1) no_entry
    (omega arith) c.place-place.ensures.within)
    ∙ ap (λ s. slot_after es (Some s)) (c.place-place.ensures.at no_entry) ∙ ap (slot_after es) (sym c.in-Some.is)

pub returns-in-Some-clause-next : goal.returns-in-Some-clause-next
returns-in-Some-clause-next c = λ rs ks stands s x is named.
    let table = c.args.self.now in
    let p = c.place-place.result in
    let found = entries-found c.self.inside table c.self.invariant c.self.view_is in
    let same : (get_or table.entries p no_entry).slot ≡ s = c.place-place.ensures.at no_entry ∙ same_Some c.in-Some.slot s (sym c.in-Some.is ∙ is) in
    let id : (get_or table.entries p no_entry).id ≡ x = same_Some (get_or table.entries p no_entry).id x
    (sym (named-entry table p no_entry found c.place-place.ensures.within) ∙ ap (id_at table) same ∙ named) in
    ap (option_and_then (id_at table)) (read-next c) ∙ next-is table rs ks p (p + 1) no_entry stands found (omega arith) c.place-place.ensures.within
    ∙ ap (λ z. next_of (kept_states rs ks) (Some z)) id
