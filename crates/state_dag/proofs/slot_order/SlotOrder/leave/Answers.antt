use Rattle.std.proofs.Common.{ℕ, ◌++◌, ◌+◌, [], ◌∷◌, List, length, take, drop, get_or, ap, ap₂, ◌∙◌, arith}
use Rattle.std.proofs.lemmas.List.{length-append, length-take, length-drop}
use Rattle.tardis_base.specs.declared.ids.Slot.{Slot}
use Rattle.state_dag.specs.Slots.{Slots}
use Rattle.state_dag.proofs.SlotOrders.{kept-less}
use Rattle.state_dag.proofs.slot_order.SlotOrder.leave.Goals as goal

pub push_back_reserved-requires : goal.push_back_reserved-requires
push_back_reserved-requires c = (
    let same = ap (λ (o : Slots). o.used) c.self.view_is in
    let some = c.requires in
    let room = c.self.invariant in
    omega arith
    )

pub invariant_of-self : goal.invariant_of-self
invariant_of-self c =
    let xs = c.self.inside.kept.items in
    let p = c.args.place in
    let same = ap (λ (o : Slots). o.used) c.self.view_is in
    let some = c.requires in
    let room = c.self.invariant in
    let long = ap length c.remove-slot.ensures.items ∙ length-append (take p xs) (drop (ℕ.suc p) xs) in
    let front = length-take p xs in
    let rest = length-drop (ℕ.suc p) xs in
    let more = c.push_back_reserved.ensures.len in
    let cap = c.push_back_reserved.ensures.capacity in
    omega arith

pub returns-clause-items : goal.returns-clause-items
returns-clause-items c = λ d.
    let xs = c.self.inside.kept.items in
    let ys = c.self.inside.free.items in
    let p = c.args.place in
    let same = ap (λ (o : Slots). o.used) c.self.view_is in
    let some = c.requires in
    ap₂ (λ (zs ws : List Slot). zs ++ ws) c.remove-slot.ensures.items c.push_back_reserved.ensures.items
    ∙ kept-less xs ys p c.remove-slot.result d (omega arith) c.remove-slot.ensures.item
    ∙ ap (λ (o : Slots). take p o.items ++ drop (p + 1) o.items ++ get_or o.items p d ∷ []) c.self.view_is

pub returns-clause-used : goal.returns-clause-used
returns-clause-used c =
    let xs = c.self.inside.kept.items in
    let p = c.args.place in
    let same = ap (λ (o : Slots). o.used) c.self.view_is in
    let some = c.requires in
    let long = ap length c.remove-slot.ensures.items ∙ length-append (take p xs) (drop (ℕ.suc p) xs) in
    let front = length-take p xs in
    let rest = length-drop (ℕ.suc p) xs in
    omega arith
