use Rattle.std.proofs.Common.{◌≡◌, ◌≤◌, ◌++◌, ℕ, List, length}
use Rattle.frame_cut.specs.Frames.{Cuts}
use Rattle.durable_run.specs.Groups.{Start, Grouping}
use Rattle.durable_run.specs.Turns.{Went}
use Rattle.durable_run.proofs.pieces.answer_held.Given as goal

abbrev pub invariant-loop-body : goal.invariant-loop-body
invariant-loop-body g l = record {
  grouped : (at : Start g.M.Machine.Plain g.row.K.Denot) (bodies : List (List ℕ))
      → Grouping g.M.Machine g.K.Disk at l.fn.journal (g.O.Sink.given l.fn.output) l.fn.gathered.bytes bodies
      → (more : List (List ℕ)) × (Cuts l.fn.cutter more l.cutter
      × Grouping g.M.Machine g.K.Disk at l.journal (g.O.Sink.given l.output) l.gathered.bytes (bodies ++ more));
  room : l.gathered.room ≡ l.fn.gathered.room;
  went : Went g.K.Disk l.fn.journal.disk l.journal.disk;
  kept : g.O.Sink.kept l.output ≡ g.O.Sink.kept l.fn.output;
  write_later : g.O.Sink.faults l.fn.output ≤ g.O.Sink.faults l.output;
}

abbrev pub decreases-loop-body : goal.decreases-loop-body
decreases-loop-body g l = length l.cutter
