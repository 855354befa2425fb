use Rattle.std.proofs.Common.{◌≡◌, ◌-◌, ◌≤◌, [], ℕ, List, length}
use Rattle.tardis_io.specs.Told.{WhileTold}
use Rattle.durable_run.specs.Groups.{Start, Grouping, Taking}
use Rattle.durable_run.specs.Prompt.{IsPrompt}
use Rattle.durable_run.specs.Turns.{Went, AreReady}
use Rattle.tardis_base.specs.Sizes.{piece}
use Rattle.site_run.specs.Endings.{most_taken}
use Rattle.durable_run.proofs.runs.answer_input.Given as goal

abbrev pub invariant-loop-taken : goal.invariant-loop-taken
invariant-loop-taken g l = record {
  told : (at : Start g.M.Machine.Plain g.row.K.Denot) → Grouping g.M.Machine g.K.Disk at l.fn.journal (g.D.Sink.given l.fn.device) [] []
      → WhileTold (g.D.Duplex.left l.fn.device) (g.D.Duplex.left l.device)
      (λ first left. Taking g.M.Machine g.K.Disk at l.taken l.journal (g.D.Sink.given l.device) l.buffers.cutter first left);
  grouped : (at : Start g.M.Machine.Plain g.row.K.Denot) → Grouping g.M.Machine g.K.Disk at l.fn.journal (g.D.Sink.given l.fn.device) [] []
      → (bodies : List (List ℕ)) × Grouping g.M.Machine g.K.Disk at l.journal (g.D.Sink.given l.device) [] bodies;
  prompt : (at : Start g.M.Machine.Plain g.row.K.Denot) → Grouping g.M.Machine g.K.Disk at l.fn.journal (g.D.Sink.given l.fn.device) [] []
      → at.given ≡ g.D.Sink.given l.fn.device → IsPrompt g.M.Machine.plain g.D.Duplex g.D.Sink at.state at.most at.entries l.fn.device l.device;
  parts : g.D.Duplex.parts l.device ≡ g.D.Duplex.parts l.fn.device;
  ready : AreReady l.buffers;
  room : length l.piece ≡ piece;
  within : l.taken ≤ most_taken;
  went : Went g.K.Disk l.fn.journal.disk l.journal.disk;
  read_later : g.D.Duplex.take_faults l.fn.device ≤ g.D.Duplex.take_faults l.device;
  write_later : g.D.Sink.faults l.fn.device ≤ g.D.Sink.faults l.device;
}

abbrev pub decreases-loop-taken : goal.decreases-loop-taken
decreases-loop-taken g l = most_taken - l.taken
