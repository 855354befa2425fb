use Rattle.std.proofs.Common.{◌≡◌, ◌-◌, ◌≤◌, ℕ, List, length}
use Rattle.site_log.proofs.Replaying.{Progress}
use Rattle.site_log.proofs.replays.take_groups.Given as goal

abbrev pub invariant-loop-size : goal.invariant-loop-size
invariant-loop-size g l = record {
  progress : (bodies : List (List ℕ)) × Progress g.M.Resting l.fn.machine l.machine l.bytes l.front l.place l.number bodies;
  opening : g.M.Resting.opening l.machine ≡ g.M.Resting.opening l.fn.machine;
  within : l.place ≤ length l.bytes;
  few : l.number ≤ l.place;
}

abbrev pub decreases-loop-size : goal.decreases-loop-size
decreases-loop-size g l = length l.bytes - l.place
