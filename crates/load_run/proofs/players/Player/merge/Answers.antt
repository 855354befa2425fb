use Rattle.tardis_base.specs.declared.requests.MergeOf.TheVariants.{Leaves}
use Rattle.tardis_base.specs.declared.requests.Request.TheVariants.{BeginMerge}
use Rattle.load_run.specs.Scripts.{merges}
use Rattle.load_run.proofs.Playing.{then_told}
use Rattle.load_run.proofs.players.Player.merge.Goals as goal

pub returns-clause-does : goal.returns-clause-does
returns-clause-does g c =
    then_told g.A.AnySite.stands c.args.self.now c.ask.new.self c.join-joined.new.self c.join-joined.result 9 (BeginMerge Leaves) c.in_ok-reply.reply (merges c.args.i)
    c.in_ok-reply.ensures.asked c.join-joined.ensures.does
