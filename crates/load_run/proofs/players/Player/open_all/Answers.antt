use Rattle.std.proofs.Common.{◌≡◌, sym, subst, arith}
use Rattle.load_run.specs.Plays.{each_to}
use Rattle.load_run.specs.Scripts.{opens}
use Rattle.load_run.specs.Held.{Plays}
use Rattle.load_run.proofs.Playing.{one_more}
use Rattle.load_run.proofs.players.Player.open_all.Goals as goal

pub loop-place-preserved : goal.loop-place-preserved
loop-place-preserved g c = record {
  does = λ play h.
      subst (λ p. Plays g.A.AnySite.stands c.open.new.self p) (sym (one_more c.loop-place.place opens play))
      (c.in_ok-open.ensures.does (each_to c.loop-place.place opens play) (c.loop-place.invariant.does play h));
  room = omega (arith, c.in_ok-open.ensures.room, c.loop-place.invariant.room);
}

pub returns-clause-does : goal.returns-clause-does
returns-clause-does g c = λ play h.
    let e : c.loop-place.place ≡ 9 = omega arith in subst (λ n. Plays g.A.AnySite.stands c.loop-place.self (each_to n opens play)) e (c.loop-place.invariant.does play h)
