use Rattle.std.proofs.Common.{◌≡◌, ◌-◌, ◌≤◌, ◌++◌, length}
use Rattle.tardis_io.specs.Told.{WhileTold}
use Rattle.site_sync.proofs.fetches.read_batch.Given as goal

abbrev pub invariant-loop-body : goal.invariant-loop-body
invariant-loop-body g l = record {
  told : WhileTold (g.D.Duplex.left l.fn.device) (g.D.Duplex.left l.device) (λ first left. first ≡ l.cutter ++ left);
  given : g.D.Sink.given l.device ≡ g.D.Sink.given l.fn.device;
  faults : g.D.Sink.faults l.device ≡ g.D.Sink.faults l.fn.device;
  room : length l.piece ≡ length l.fn.piece;
  read_later : g.D.Duplex.take_faults l.fn.device ≤ g.D.Duplex.take_faults l.device;
}

abbrev pub decreases-loop-body : goal.decreases-loop-body
decreases-loop-body g l = 1114116 - length l.cutter
