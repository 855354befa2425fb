use Rattle.load_run.specs.Plays.{each_to}
use Rattle.load_run.specs.Scripts.{opens, one_step}
use Rattle.load_run.proofs.Playing.{then_does}
use Rattle.load_run.proofs.players.Player.play.Goals as goal

pub returns : goal.returns
returns g c =
    then_does g.A.AnySite.stands c.args.self.now c.open_all.new.self c.take_steps.new.self c.take_steps.result (each_to 9 opens) (each_to c.args.steps one_step)
    c.in_ok-open_all.ensures.does c.take_steps.ensures
