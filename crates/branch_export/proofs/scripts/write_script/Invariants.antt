use Rattle.std.proofs.Common.{◌≤◌, List}
use Rattle.branch_export.specs.Exports.{Entry, IsExport}
use Rattle.branch_export.proofs.Scripting.{Scripting}
use Rattle.branch_export.proofs.scripts.write_script.Given as goal

abbrev pub invariant-loop-left : goal.invariant-loop-left
invariant-loop-left g l = record {
  scripting : (es : List Entry) → IsExport l.fn.export es → Scripting (g.O.Sink.given l.fn.output) (g.O.Sink.given l.output) l.reader l.gathered l.left es;
  later : g.O.Sink.faults l.fn.output ≤ g.O.Sink.faults l.output;
}

abbrev pub decreases-loop-left : goal.decreases-loop-left
decreases-loop-left g l = l.left
