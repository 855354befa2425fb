use Rattle.std.proofs.Common.{◌≡◌, ◌+◌, sym, subst, arith}
use Rattle.plain_site.specs.Site.{opening}
use Rattle.plain_world.specs.Worlds.{opening_sites, world_limits}
use Rattle.world_core.specs.Held.{AllStand}
use Rattle.world_core.proofs.Standing.{one_more}
use Rattle.world_core.proofs.Lists.{on_ok}
use Rattle.world_core.proofs.worlds.open_next.Goals as goal

pub returns : goal.returns
returns g c = λ all.
    let limits = world_limits c.args.sites in
    let count = c.args.count in
    let next : count + 1 ≡ 1 + count = omega arith in
    on_ok c.put.result
    (λ added. subst (λ made. AllStand g.A.AnySite.stands made (opening_sites limits 1 (count + 1))) (sym added)
    (one_more g.A.AnySite.stands c.args.made.now.items limits 1 count c.in_ok-site.site all (subst (λ k. g.A.AnySite.stands c.in_ok-site.site (opening limits k)) next c.in_ok-site.ensures)))
    c.put.ensures
