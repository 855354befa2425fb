use Rattle.std.proofs.Common.{slice_get, sym, ap, ◌∙◌}
use Rattle.state_dag.specs.Slots.{Slots}
use Rattle.state_dag.proofs.SlotOrders.{free-read, front-read}
use Rattle.state_dag.proofs.slot_order.SlotOrder.first_free.Goals as goal

pub returns : goal.returns
returns c = c.copied.ensures ∙ front-read c.self.inside.free.items c.front.result c.front.ensures.item.3
    ∙ sym (free-read c.self.inside.kept.items c.self.inside.free.items) ∙ ap (λ (o : Slots). slice_get o.items o.used) c.self.view_is
