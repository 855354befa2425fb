use Rattle.std.proofs.Common.{◌≡◌, ◌∙◌, ◌+◌, Bool, true, false, ap, arith, refl}
use Rattle.std.specs.Prelude.{if◌then◌else◌}
use mir.Val.{bool_byte}
use Rattle.site_peers.specs.Asking.{is_applied, lacks_room}
use Rattle.site_peers.proofs.Delivering.{delivered_more, delivered_all}
use Rattle.site_peers.proofs.deliveries.Delivery.deliver_some.Goals as goal

number_of : (b : Bool) → bool_byte b ≡ (if b then 1 else 0)
number_of true = refl
number_of false = refl

pub loop-item-preserved : goal.loop-item-preserved
loop-item-preserved g c =
    let d = c.deliver_one.ensures.delivered in
    record {
      delivered = delivered_more g.M.Settling.plain (g.M.Settling.stands c.args.machine.now) (g.M.Settling.stands c.loop-item.machine)
          (g.M.Settling.stands c.deliver_one.new.machine) c.args.self.now c.loop-item._item c.loop-item.self c.loop-item.useful c.loop-item.refused d.0 c.deliver_one.new.self
          c.deliver_one.new.reply c.is_applied-applied.result c.either-useful.result c.lacks_room-more.result _ c.loop-item.invariant.delivered d.1.0 d.1.1
          (c.is_applied-applied.ensures ∙ ap is_applied c.bytes.ensures.same) c.either-useful.ensures
          (c.lacks_room-more.ensures ∙ ap lacks_room c.bytes-in-loop-item.ensures.same)
          (ap (λ n. c.loop-item.refused + n) (number_of c.lacks_room-more.result));
      opening = c.deliver_one.ensures.opening ∙ c.loop-item.invariant.opening;
    }

pub returns-clause-left : goal.returns-clause-left
returns-clause-left g c =
    (delivered_all g.M.Settling.plain (g.M.Settling.stands c.args.machine.now) (g.M.Settling.stands c.loop-item.machine) c.args.self.now c.loop-item._item
    c.min-count.result c.loop-item.self c.loop-item.useful c.loop-item.refused c.loop-item.invariant.delivered (omega arith) (omega arith)).left_is

pub returns-clause-delivered : goal.returns-clause-delivered
returns-clause-delivered g c =
    (delivered_all g.M.Settling.plain (g.M.Settling.stands c.args.machine.now) (g.M.Settling.stands c.loop-item.machine) c.args.self.now c.loop-item._item
    c.min-count.result c.loop-item.self c.loop-item.useful c.loop-item.refused c.loop-item.invariant.delivered (omega arith) (omega arith)).delivered
