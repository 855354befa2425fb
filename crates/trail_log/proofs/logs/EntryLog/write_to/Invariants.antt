use Rattle.std.proofs.Common.{◌≡◌, ◌≤◌, ◌++◌, take}
use Rattle.std.specs.List.{concat}
use Rattle.tardis_io.specs.Told.{WhileTold}
use Rattle.trail_log.specs.Frames.{trail_frames}
use Rattle.trail_log.proofs.logs.EntryLog.write_to.Given as goal

abbrev pub invariant-loop-chunk : goal.invariant-loop-chunk
invariant-loop-chunk g l = record {
  told : WhileTold (g.O.Sink.given l.fn.output) (g.O.Sink.given l.output) (λ before after. after ≡ before ++ concat (take l.chunk-index l.chunk-items));
  all : concat l.chunk-items ≡ trail_frames l.self.trail;
  later : g.O.Sink.faults l.fn.output ≤ g.O.Sink.faults l.output;
}
