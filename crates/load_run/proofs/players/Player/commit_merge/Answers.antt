use Rattle.tardis_base.specs.declared.requests.Request.TheVariants.{Commit}
use Rattle.load_run.specs.Scripts.{aborts}
use Rattle.load_run.proofs.Playing.{then_told}
use Rattle.load_run.proofs.players.Player.commit_merge.Goals as goal

pub returns-clause-does : goal.returns-clause-does
returns-clause-does g c =
    then_told g.A.AnySite.stands c.args.self.now c.ask.new.self c.abort_refused-ended.new.self c.abort_refused-ended.result 9 (Commit (record { 0 = 0 }) 0) c.in_ok-reply.reply aborts
    c.in_ok-reply.ensures.asked c.abort_refused-ended.ensures.does
