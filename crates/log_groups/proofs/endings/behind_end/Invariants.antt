use Rattle.std.proofs.Common.{◌≡◌, drop}
use Rattle.log_groups.specs.Logs.{behind_end}
use Rattle.log_groups.proofs.endings.behind_end.Given as goal

abbrev pub invariant-loop-i : goal.invariant-loop-i
invariant-loop-i l = behind_end l.bytes ≡ behind_end (drop l.i l.bytes)
