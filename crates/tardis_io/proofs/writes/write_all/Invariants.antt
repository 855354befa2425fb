use Rattle.std.proofs.Common.{length, ◌-◌, ◌≡◌, ◌≤◌, ◌++◌, take}
use Rattle.tardis_io.specs.Told.{WhileTold}
use Rattle.tardis_io.proofs.writes.write_all.Given as goal

abbrev pub invariant-loop-done : goal.invariant-loop-done
invariant-loop-done g l = record {
  told : WhileTold (g.O.Sink.given l.fn.output) (g.O.Sink.given l.output) (λ before after. after ≡ before ++ take l.done l.bytes);
  within : l.done ≤ length l.bytes;
  later : g.O.Sink.faults l.fn.output ≤ g.O.Sink.faults l.output;
  kept : g.O.Sink.kept l.output ≡ g.O.Sink.kept l.fn.output;
}

abbrev pub decreases-loop-done : goal.decreases-loop-done
decreases-loop-done g l = length l.bytes - l.done
