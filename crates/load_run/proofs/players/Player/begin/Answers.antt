use Rattle.std.proofs.Common.{◌%◌, decimal}
use Rattle.tardis_base.specs.declared.requests.Begin.TheVariants.{Ancestor}
use Rattle.tardis_base.specs.declared.requests.Request.TheVariants.{Begin, Get, Put}
use Rattle.load_run.specs.Plays.{asks, draws}
use Rattle.load_run.specs.Scripts.{key}
use Rattle.load_run.proofs.Playing.{then_does}
use Rattle.load_run.proofs.players.Player.begin.Goals as goal

pub returns-clause-does : goal.returns-clause-does
returns-clause-does g c =
    let s = c.args.session in
    then_does g.A.AnySite.stands c.args.self.now c.get_drawn.new.self c.put_drawn.new.self c.put_drawn.result
    (λ play. draws (λ w. asks s (Get (key (w % 64)))) (asks s (Begin Ancestor) play))
    (draws (λ w. asks s (Put (key (w % 64)) (decimal c.args.i))))
    (λ play h. c.in_ok-get_drawn.ensures.does (asks s (Begin Ancestor) play) (c.in_ok-tell.ensures.does play h))
    c.put_drawn.ensures.does
