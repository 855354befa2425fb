use Rattle.std.proofs.Common.{◌+◌, ◌≤◌, take, decimal}
use Rattle.tardis_base.specs.declared.requests.Request.TheVariants.{Put}
use Rattle.load_run.specs.Plays.{Play, asks, each_of}
use Rattle.load_run.specs.Held.{Plays}
use Rattle.load_run.proofs.players.Player.put_each.Given as goal

abbrev pub invariant-loop-key : goal.invariant-loop-key
invariant-loop-key g l = record {
  does : (play : Play) → Plays g.A.AnySite.stands l.fn.self play → Plays g.A.AnySite.stands l.self (each_of (take l.key-index l.keys) (λ k. asks 9 (Put k (decimal l.number))) play);
  room : l.self.counts.events ≤ l.fn.self.counts.events + l.key-index;
}
