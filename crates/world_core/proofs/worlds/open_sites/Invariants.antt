use Rattle.std.proofs.Common.{◌≤◌, ◌-◌}
use Rattle.plain_world.specs.Worlds.{opening_sites, world_limits}
use Rattle.world_core.specs.Held.{AllStand}
use Rattle.world_core.proofs.worlds.open_sites.Given as goal

abbrev pub invariant-loop-count : goal.invariant-loop-count
invariant-loop-count g l = record {
  all : AllStand g.A.AnySite.stands l.made.items (opening_sites (world_limits l.sites) 1 l.count);
  within : l.count ≤ l.sites;
}

abbrev pub decreases-loop-count : goal.decreases-loop-count
decreases-loop-count g l = l.sites - l.count
