use Rattle.std.proofs.Common.{◌≡◌, ◌∙◌, true, eqb, ltb, List, Option, Some, None, sym, ap, subst}
use Rattle.std.specs.List.{list_all}
use Rattle.std.specs.Option.{option_map, option_and_then}
use Rattle.std.proofs.lemmas.Option.{none-some, same_Some}
use Rattle.tardis_base.specs.declared.ids.Slot.{Slot}
use Rattle.plain_dag.specs.States.{children}
use Rattle.state_dag.specs.Table.{Entry, Table, entry_at, id_at, is_slot, arrive_in_order, arrival_at}
use Rattle.state_dag.specs.Shared.{common}
use Rattle.state_dag.proofs.SharedSlots.{common-named}
use Rattle.state_dag.proofs.Heirs.{heir-is_kept, heir-is_later}
use Rattle.state_dag.proofs.StateDag.shared_stand_in.Goals as goal

pub returns-clause-shared : goal.returns-clause-shared
returns-clause-shared c = λ rs ks stands x named.
    ap (option_map (id_at c.args.self.now)) c.common_slot.ensures
    ∙ common-named c.args.self.now rs ks stands c.child_slots.result.now (children rs x) (c.child_slots.ensures.stand_ins rs ks stands x named)

pub returns-clause-kept : goal.returns-clause-kept
returns-clause-kept c =
    heir-is_kept c.args.self.now c.args.slot c.child_slots.result.now c.child_slots.ensures.is c.common_slot.result c.common_slot.ensures
    (subst (λ (t : Table). list_all (λ f. list_all (is_slot t) f.stand_ins) t.entries ≡ true) c.self.view_is c.self.invariant.stand_ins)
    (subst (λ (t : Table). arrive_in_order t.entries ≡ true) c.self.view_is c.self.invariant.in_order)

pub returns-clause-later : goal.returns-clause-later
returns-clause-later c =
    heir-is_later c.args.self.now c.args.slot c.child_slots.result.now c.child_slots.ensures.is c.common_slot.result c.common_slot.ensures
    (subst (λ (t : Table). list_all (λ f. list_all (λ s. ltb f.arrival (arrival_at t s)) f.stand_ins) t.entries ≡ true) c.self.view_is c.self.invariant.later)

-- what all of the entry's slots are
common-of : (o : Option Entry) (ss : List Slot) → option_map (λ e. e.stand_ins) o ≡ Some ss → common (λ (a b : Slot). eqb a.0 b.0) ss
    ≡ option_and_then (λ (e : Entry). common (λ (a b : Slot). eqb a.0 b.0) e.stand_ins) o
common-of None ss is = absurd (none-some ss is)
common-of (Some e) ss is = ap (common (λ (a b : Slot). eqb a.0 b.0)) (sym (same_Some e.stand_ins ss is))

pub returns-clause-is : goal.returns-clause-is
returns-clause-is c = c.common_slot.ensures ∙ common-of (entry_at c.args.self.now c.args.slot) c.child_slots.result.now c.child_slots.ensures.is
