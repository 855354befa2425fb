use Rattle.std.proofs.Common.{◌+◌, ◌*◌, ◌≤◌}
use Rattle.load_run.specs.Plays.{Play, each_to}
use Rattle.load_run.specs.Scripts.{one_step}
use Rattle.load_run.specs.Held.{Plays}
use Rattle.load_run.proofs.players.Player.take_steps.Given as goal

abbrev pub invariant-loop-place : goal.invariant-loop-place
invariant-loop-place g l = record {
  does : (play : Play) → Plays g.A.AnySite.stands l.fn.self play → Plays g.A.AnySite.stands l.self (each_to l.place one_step play);
  room : l.self.counts.events ≤ 9 + 265 * l.place;
}
