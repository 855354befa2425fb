use Rattle.std.proofs.Common.{◌≡◌, sym, subst, arith}
use Rattle.load_run.specs.Plays.{each_to}
use Rattle.load_run.specs.Scripts.{one_step}
use Rattle.load_run.specs.Held.{Plays}
use Rattle.load_run.proofs.Playing.{one_more}
use Rattle.load_run.proofs.players.Player.take_steps.Goals as goal

pub loop-place-preserved : goal.loop-place-preserved
loop-place-preserved g c = record {
  does = λ play h.
      subst (λ p. Plays g.A.AnySite.stands c.step.new.self p) (sym (one_more c.loop-place.place one_step play))
      (c.in_ok-step.ensures.does (each_to c.loop-place.place one_step play) (c.loop-place.invariant.does play h));
  room = omega (arith, c.in_ok-step.ensures.room, c.loop-place.invariant.room);
}

pub returns : goal.returns
returns g c = λ play h.
    let e : c.loop-place.place ≡ c.args.steps = omega arith in
    subst (λ n. Plays g.A.AnySite.stands c.loop-place.self (each_to n one_step play)) e (c.loop-place.invariant.does play h)
