use Rattle.std.proofs.Common.{◌%◌, ◌==◌, sym, subst, if◌then◌else◌}
use Rattle.std.proofs.lemmas.Bool.{false_from_ne_true, eqb-true}
use Rattle.load_run.specs.Scripts.{turn, upkeep}
use Rattle.load_run.specs.Held.{Plays}
use Rattle.load_run.proofs.players.Player.step.Goals as goal

pub returns-else-i-eq0-clause-does : goal.returns-else-i-eq0-clause-does
returns-else-i-eq0-clause-does g c = λ play h.
    let i = c.args.i in
    subst (λ b. Plays g.A.AnySite.stands c.turn.new.self (if b then upkeep i (turn i play) else turn i play))
    (sym (false_from_ne_true (i % 7 == 0) (λ t. c.if-i-eq0.false (eqb-true (i % 7) 0 t)))) (c.in_ok-turn.ensures.does play h)
