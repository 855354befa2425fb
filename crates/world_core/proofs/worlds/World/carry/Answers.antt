use Rattle.std.proofs.Common.{◌≡◌, sym, subst}
use Rattle.wire_talk.specs.Spellings.{reply_spelling}
use Rattle.world_core.specs.Held.{WorldStands}
use Rattle.world_core.proofs.Standing.{no_site_in}
use Rattle.world_core.proofs.Replying.{carry_none}
use Rattle.world_core.proofs.worlds.World.carry.Goals as goal

pub returns-in-None : goal.returns-in-None
returns-in-None g c = λ world stands.
    subst (λ a. WorldStands g.A.AnySite.stands c.args.self.now a.0 × (c.refuse.new.out ≡ reply_spelling a.1))
    (sym (carry_none world c.args.to c.args.batch c.args.item
    (no_site_in g.A.AnySite.stands c.args.self.now.sites world.sites c.args.to stands.sites (c.place_of.ensures.none c.in-None.is))))
    (stands, c.refuse.ensures)
