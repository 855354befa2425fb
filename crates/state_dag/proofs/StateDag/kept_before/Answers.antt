use Rattle.std.proofs.Common.{◌≡◌, ◌∙◌, ◌-◌, ◌<◌, ℕ, true, length, map, List, get_or, Some, sym, ap, subst, arith}
use Rattle.std.specs.Option.{option_map, option_and_then}
use Rattle.std.proofs.lemmas.Option.{same_Some}
use Rattle.tardis_base.specs.declared.ids.Slot.{Slot}
use Rattle.plain_dag.specs.Collection.{kept_states}
use Rattle.state_dag.specs.Table.{Entry, Table, id_at, arrival_at, arrive_in_order}
use Rattle.state_dag.specs.Answers.{next_of, slot_after}
use Rattle.state_dag.proofs.KeptEntries.{slot-behind, arrives-before}
use Rattle.state_dag.proofs.Calls.{no_entry, slot-of_entry, entries-found, entries-distinct, read-some, first-is, next-is, named-entry, arrival-entry}
use Rattle.state_dag.proofs.StateDag.kept_before.Goals as goal

pub returns-then-place-eq0-clause-before : goal.returns-then-place-eq0-clause-before
returns-then-place-eq0-clause-before c = λ rs ks stands s x is named.
    let table = c.args.self.now in
    let zero : c.place-place.result ≡ 0 = omega arith in
    let within = c.place-place.ensures.within in
    let at = c.place-place.ensures.at no_entry in
    let first : (get_or table.entries 0 no_entry).slot ≡ s = ap (λ (k : ℕ). (get_or table.entries k no_entry).slot) (sym zero) ∙ at
    ∙ same_Some c.in-Some.slot s (sym c.in-Some.is ∙ is) in
    sym (first-is table rs ks stands (entries-found c.self.inside table c.self.invariant c.self.view_is))
    ∙ ap (λ o. option_and_then (id_at table) (option_map (λ (e : Entry). e.slot) o)) (read-some table.entries 0 no_entry (omega arith))
    ∙ ap (id_at table) first ∙ named

-- the entry before that at the slot
before : (table : Table) (lent : List Slot) (p : ℕ) → lent ≡ map (λ e. e.slot) table.entries → 0 < p → p < length table.entries →
    get_or lent (p - 1) (record { 0 = 0 }) ≡ (get_or table.entries (p - 1) no_entry).slot
before table lent p is some lt = ap (λ ss. get_or ss (p - 1) (record { 0 = 0 })) is
    ∙ slot-of_entry table.entries (p - 1) no_entry (record { 0 = 0 }) (omega arith)

pub returns-else-place-eq0-clause-is : goal.returns-else-place-eq0-clause-is
returns-else-place-eq0-clause-is c =
    let table = c.args.self.now in
    let p = c.place-place.result in
    let within = c.place-place.ensures.within in
    ap (λ s. slot_after table.entries (Some s)) (before table c.kept_slots.result.now p c.kept_slots.ensures.is (omega arith) within)
    ∙ slot-behind table.entries (entries-distinct c.self.inside table c.self.invariant c.self.view_is) (p - 1) p no_entry (omega arith) (omega arith)
    ∙ ap (option_map (λ (e : Entry). e.slot)) (read-some table.entries p no_entry within) ∙ ap (λ s. Some s) (c.place-place.ensures.at no_entry)
    ∙ sym c.in-Some.is

pub returns-else-place-eq0-clause-earlier : goal.returns-else-place-eq0-clause-earlier
returns-else-place-eq0-clause-earlier c = λ t is.
    let table = c.args.self.now in
    let p = c.place-place.result in
    let within = c.place-place.ensures.within in
    let found = entries-found c.self.inside table c.self.invariant c.self.view_is in
    let up = subst (λ (t : Table). arrive_in_order t.entries ≡ true) c.self.view_is c.self.invariant.in_order in
    let one = ap (arrival_at table) (before table c.kept_slots.result.now p c.kept_slots.ensures.is (omega arith) within)
    ∙ arrival-entry table (p - 1) no_entry found (omega arith) in
    let two = ap (arrival_at table) (sym (same_Some c.in-Some.slot t (sym c.in-Some.is ∙ is)) ∙ sym (c.place-place.ensures.at no_entry))
    ∙ arrival-entry table p no_entry found within in
    let less = arrives-before table.entries (p - 1) p no_entry up (omega arith) within in
    omega arith

pub returns-else-place-eq0-clause-before : goal.returns-else-place-eq0-clause-before
returns-else-place-eq0-clause-before c = λ rs ks stands s x is named.
    let table = c.args.self.now in
    let p = c.place-place.result in
    let within = c.place-place.ensures.within in
    let found = entries-found c.self.inside table c.self.invariant c.self.view_is in
    let earlier = before table c.kept_slots.result.now p c.kept_slots.ensures.is (omega arith) within in
    let same : (get_or table.entries p no_entry).slot ≡ s = c.place-place.ensures.at no_entry ∙ same_Some c.in-Some.slot s (sym c.in-Some.is ∙ is) in
    ap (next_of (kept_states rs ks)) (ap (id_at table) earlier ∙ named-entry table (p - 1) no_entry found (omega arith))
    ∙ sym (next-is table rs ks (p - 1) p no_entry stands found (omega arith) (omega arith))
    ∙ ap (λ o. option_and_then (id_at table) (option_map (λ (e : Entry). e.slot) o)) (read-some table.entries p no_entry within) ∙ ap (id_at table) same ∙ named
