use Rattle.std.proofs.Common.{◌≡◌, ◌∙◌, ◌<◌, true, length, get_or, sym, ap, subst, arith}
use Rattle.tardis_base.specs.declared.ids.Slot.{Slot}
use Rattle.state_dag.specs.Table.{Table, is_slot}
use Rattle.state_dag.specs.Held.{kept_of}
use Rattle.state_dag.proofs.Memory.{kept-long, entries-long}
use Rattle.state_dag.proofs.Calls.{kept-are, arrival-of_node, placed-at, placed-entry, slots-ascend}
use Rattle.state_dag.proofs.StateDag.place.Goals as goal

pub first_from-requires : goal.first_from-requires
first_from-requires c =
    slots-ascend c.self.inside c.self.invariant c.deref.result.now c.kept_slots.result.now c.deref.ensures.value
    (kept-are c.self.inside c.self.invariant c.args.self.now c.kept_slots.result.now c.self.view_is c.kept_slots.ensures.is)

stands-at : (c : goal.After-first_from) → (c.first_from.result < length (kept_of c.self.inside))
    × ((d : Slot) → get_or (kept_of c.self.inside) c.first_from.result d ≡ c.args.slot)
stands-at c =
    let a = c.self.inside in
    placed-at a c.self.invariant c.deref.result.now c.kept_slots.result.now c.deref.ensures.value
    (kept-are a c.self.invariant c.args.self.now c.kept_slots.result.now c.self.view_is c.kept_slots.ensures.is) c.args.slot
    c.node.result.now.arrival c.first_from.result (subst (λ t. is_slot t c.args.slot ≡ true) (sym c.self.view_is) c.requires)
    (arrival-of_node a c.self.invariant c.args.self.now c.args.slot c.node.result.now c.self.view_is c.requires c.node.ensures.entry)
    c.first_from.ensures.before c.first_from.ensures.from

pub returns-clause-within : goal.returns-clause-within
returns-clause-within c =
    let w = stands-at c in
    let lt = w.0 in
    let one = kept-long c.self.inside c.self.invariant in
    let two = entries-long c.self.inside c.self.invariant in
    let same = ap (λ (t : Table). length t.entries) c.self.view_is in
    omega arith

pub returns-clause-at : goal.returns-clause-at
returns-clause-at c = λ d.
    let w = stands-at c in
    ap (λ (t : Table). (get_or t.entries c.first_from.result d).slot) (sym c.self.view_is)
    ∙ placed-entry c.self.inside c.self.invariant c.args.slot c.first_from.result d w.0 w.1
