use Rattle.std.proofs.Common.{◌≡◌, sym, subst}
use Rattle.world_core.specs.Asked.{step_over_bytes_at}
use Rattle.world_core.specs.Held.{WorldStands}
use Rattle.world_core.proofs.Standing.{no_site_in}
use Rattle.world_core.proofs.Replying.{gives_weaker}
use Rattle.world_core.proofs.worlds.World.step.Goals as goal

pub returns-in-None-clause-answer : goal.returns-in-None-clause-answer
returns-in-None-clause-answer g c = λ world stands.
    gives_weaker (λ new. new ≡ world) (WorldStands g.A.AnySite.stands c.args.self.now) (step_over_bytes_at world c.args.site c.args.actor c.args.request.now) world
    c.refuse_site.result c.refuse_site.new.out
    (λ w e. subst (WorldStands g.A.AnySite.stands c.args.self.now) (sym e) stands)
    (c.refuse_site.ensures.answer world c.args.actor (no_site_in g.A.AnySite.stands c.args.self.now.sites world.sites c.args.site stands.sites
    (c.place_of.ensures.none c.in-None.is)))
