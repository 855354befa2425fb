use Rattle.std.proofs.Common.{take, sym, ap, ◌∙◌}
use Rattle.state_dag.specs.Slots.{Slots}
use Rattle.state_dag.proofs.SlotOrders.{kept-lent}
use Rattle.state_dag.proofs.slot_order.SlotOrder.kept.Goals as goal

pub returns : goal.returns
returns c = c.as_slice.ensures ∙ sym (kept-lent c.self.inside.kept.items c.self.inside.free.items)
    ∙ ap (λ (o : Slots). take o.used o.items) c.self.view_is
