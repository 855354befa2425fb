use Rattle.std.proofs.Common.{◌∙◌, sym, subst}
use Rattle.load_run.specs.Plays.{asks, reply_to, stepped}
use Rattle.load_run.specs.Held.{Plays}
use Rattle.load_run.proofs.Playing.{counted_as}
use Rattle.load_run.proofs.players.Player.ask.Goals as goal

pub returns-clause-asked : goal.returns-clause-asked
unfolding asks reply_to stepped
returns-clause-asked g c = λ play h.
    let given = c.in_ok-reply.ensures.replied play h in
    let here = subst (λ v. Plays g.A.AnySite.stands v (stepped c.args.actor c.args.request play)) (sym c.self.view_is) given.0 in (
      record {
        site = here.site;
        words = here.words;
        counts = c.with-self-inside.ensures.counted
            ∙ counted_as c.in_ok-reply.reply (reply_to c.args.actor c.args.request play) c.self.inside.counts play.counts given.1 here.counts;
      },
      given.1,
    )
