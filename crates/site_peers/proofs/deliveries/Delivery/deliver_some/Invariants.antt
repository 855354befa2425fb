use Rattle.std.proofs.Common.{◌≡◌}
use Rattle.site_peers.proofs.Delivering.{DeliveredSo}
use Rattle.site_peers.proofs.deliveries.Delivery.deliver_some.Given as goal

abbrev pub invariant-loop-item : goal.invariant-loop-item
invariant-loop-item g l = record {
  delivered : DeliveredSo g.M.Settling.plain (g.M.Settling.stands l.fn.machine) (g.M.Settling.stands l.machine) l.fn.self l._item l.self l.useful l.refused;
  opening : g.M.Settling.opening l.machine ≡ g.M.Settling.opening l.fn.machine;
}
