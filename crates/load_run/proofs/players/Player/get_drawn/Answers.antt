use Rattle.std.proofs.Common.{◌%◌, subst}
use Rattle.tardis_base.specs.declared.requests.Request.TheVariants.{Get}
use Rattle.load_run.specs.Plays.{asks}
use Rattle.load_run.specs.Scripts.{key}
use Rattle.load_run.specs.Held.{Does}
use Rattle.load_run.proofs.Playing.{then_drawn}
use Rattle.load_run.proofs.players.Player.get_drawn.Goals as goal

pub returns-clause-does : goal.returns-clause-does
returns-clause-does g c =
    let s = c.args.session in
    then_drawn g.A.AnySite.stands c.args.self.now c.word-read.new.self c.tell.new.self c.tell.result c.word-read.result (λ w. asks s (Get (key (w % 64)))) c.word-read.ensures.drew
    (subst (λ k. Does g.A.AnySite.stands c.word-read.new.self c.tell.new.self c.tell.result (asks s (Get k))) c.in_ok-key.ensures.key c.tell.ensures.does)
