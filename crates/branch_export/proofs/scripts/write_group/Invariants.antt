use Rattle.std.proofs.Common.{◌+◌, ◌-◌, ◌*◌, ◌≤◌, ℕ, List, length}
use Rattle.branch_export.specs.Exports.{Entry}
use Rattle.branch_export.specs.Groups.{BeginsWith}
use Rattle.branch_export.proofs.Scripting.{Grouping}
use Rattle.branch_export.proofs.scripts.write_group.Given as goal

abbrev pub invariant-loop-place : goal.invariant-loop-place
invariant-loop-place l = record {
  grouping : (es : List Entry) (rest : List ℕ) → BeginsWith l.fn.reader l.fn.size es rest → Grouping l.reader (l.fn.size - l._place) es rest l.fn.out l.out;
  room : length l.out ≤ length l.fn.out + (8 + 4234 * l._place);
}
