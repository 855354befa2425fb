use Rattle.tardis_base.specs.declared.requests.MergeOf.TheVariants.{Leaves}
use Rattle.tardis_base.specs.declared.requests.Request.TheVariants.{BeginMerge, RaiseAuto, Tidy}
use Rattle.load_run.specs.Plays.{asks, asks_then}
use Rattle.load_run.specs.Scripts.{merges}
use Rattle.load_run.proofs.Playing.{then_does}
use Rattle.load_run.proofs.players.Player.upkeep.Goals as goal

pub returns-clause-does : goal.returns-clause-does
returns-clause-does g c =
    then_does g.A.AnySite.stands c.args.self.now c.tell.new.self c.tell-2.new.self c.tell-2.result
    (λ play. asks 0 RaiseAuto (asks_then 9 (BeginMerge Leaves) (merges c.args.i) play))
    (asks 0 (Tidy 64))
    (λ play h. c.in_ok-tell.ensures.does (asks_then 9 (BeginMerge Leaves) (merges c.args.i) play) (c.in_ok-merge.ensures.does play h))
    c.tell-2.ensures.does
