use Rattle.std.proofs.Common.{◌%◌, decimal, subst}
use Rattle.tardis_base.specs.declared.requests.Request.TheVariants.{Put}
use Rattle.load_run.specs.Plays.{asks}
use Rattle.load_run.specs.Scripts.{key}
use Rattle.load_run.specs.Held.{Does}
use Rattle.load_run.proofs.Playing.{then_drawn}
use Rattle.load_run.proofs.players.Player.put_drawn.Goals as goal

pub returns-clause-does : goal.returns-clause-does
returns-clause-does g c =
    let s = c.args.session in
    let text = decimal c.args.number in
    then_drawn g.A.AnySite.stands c.args.self.now c.word-written.new.self c.put.new.self c.put.result c.word-written.result (λ w. asks s (Put (key (w % 64)) text))
    c.word-written.ensures.drew
    (subst (λ k. Does g.A.AnySite.stands c.word-written.new.self c.put.new.self c.put.result (asks s (Put k text))) c.in_ok-key.ensures.key c.put.ensures.does)
