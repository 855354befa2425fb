use Rattle.std.proofs.Common.{◌≡◌, ◌++◌, take}
use Rattle.std.specs.Prelude.{flat_map}
use Rattle.site_peers.specs.Asking.{count_spelling}
use Rattle.site_peers.proofs.pulls.put_counts.Given as goal

abbrev pub invariant-loop-line : goal.invariant-loop-line
invariant-loop-line l = l.out ≡ l.fn.out ++ flat_map count_spelling (take l.line-index l.lines)
