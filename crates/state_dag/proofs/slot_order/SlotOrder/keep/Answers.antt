use Rattle.std.proofs.Common.{◌++◌, ◌+◌, [], ◌∷◌, List, length, sym, ap, ap₂, ◌∙◌, arith}
use Rattle.std.proofs.lemmas.List.{length-append}
use Rattle.tardis_base.specs.declared.ids.Slot.{Slot}
use Rattle.state_dag.specs.Nodes.{slot_after_all, with_slot}
use Rattle.state_dag.specs.Slots.{Slots}
use Rattle.state_dag.proofs.SlotOrders.{kept-more}
use Rattle.state_dag.proofs.slot_order.SlotOrder.keep.Goals as goal

pub push_reserved-requires : goal.push_reserved-requires
push_reserved-requires c = (let same = ap (λ (o : Slots). o.room) c.self.view_is in let room = c.requires.room in omega arith)

pub invariant_of-self : goal.invariant_of-self
invariant_of-self c =
    let same = ap (λ (o : Slots). o.room) c.self.view_is in
    let room = c.requires.room in
    let long = ap length c.push_reserved.ensures.items ∙ length-append c.self.inside.kept.items (c.args.slot ∷ []) in
    let left = c.pop_front.ensures.len in
    let cap = c.pop_front.ensures.capacity in
    omega arith

pub returns-clause-items : goal.returns-clause-items
returns-clause-items c =
    ap₂ (λ (xs ys : List Slot). xs ++ ys) c.push_reserved.ensures.items c.pop_front.ensures.rest
    ∙ kept-more c.self.inside.kept.items c.self.inside.free.items c.args.slot
    (c.requires.slot ∙ ap (λ (o : Slots). slot_after_all o.items o.used) (sym c.self.view_is))
    ∙ ap (λ (o : Slots). with_slot o.items o.used c.args.slot) c.self.view_is

pub returns-clause-used : goal.returns-clause-used
returns-clause-used c =
    ap length c.push_reserved.ensures.items ∙ length-append c.self.inside.kept.items (c.args.slot ∷ [])
    ∙ ap (λ (o : Slots). o.used + 1) c.self.view_is
