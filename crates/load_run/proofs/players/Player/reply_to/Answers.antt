use Rattle.std.proofs.Common.{subst}
use Rattle.load_run.specs.Held.{Held, Replied}
use Rattle.load_run.proofs.Playing.{site_replied}
use Rattle.load_run.proofs.players.Player.reply_to.Goals as goal

pub returns-clause-replied : goal.returns-clause-replied
returns-clause-replied g c =
    let old : Held g.row.A.Denot = record { site = c.self.inside.site; words = c.self.inside.words; counts = c.self.inside.counts } in
    let new : Held g.row.A.Denot = record { site = c.step.new.self; words = c.self.inside.words; counts = c.self.inside.counts } in
    subst (λ (v : Held g.row.A.Denot). Replied g.A.AnySite.stands v new c.args.actor c.args.request c.step.result) c.self.view_is
    (site_replied g.A.AnySite.stands old c.step.new.self c.args.actor c.args.request c.step.result c.step.ensures.given)
