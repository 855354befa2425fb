use Rattle.std.proofs.Common.{◌≡◌, ◌-◌, ◌≤◌, ◌++◌, length}
use Rattle.tardis_io.specs.Told.{WhileTold}
use Rattle.branch_export.proofs.inputs.read_by.Given as goal

abbrev pub invariant-loop-bytes : goal.invariant-loop-bytes
invariant-loop-bytes g l = record {
  told : WhileTold (g.I.Source.left l.fn.input) (g.I.Source.left l.input) (λ first left. first ≡ l.bytes.items ++ left);
  within : length l.bytes.items ≤ 1099511627776;
  piece : length l.piece ≡ 65536;
  later : g.I.Source.faults l.fn.input ≤ g.I.Source.faults l.input;
}

abbrev pub decreases-loop-bytes : goal.decreases-loop-bytes
decreases-loop-bytes g l = 1099511627776 - length l.bytes.items
