use Rattle.std.proofs.Common.{◌≤◌, ◌==◌, ◌∙◌, [], Ok, refl, length, sym, subst, arith}
use Rattle.tardis_io.specs.declared.statuses.Status.TheVariants.{ReadFault, WriteFault, LongFrame, DiskFault}
use Rattle.tardis_io.specs.Told.{WhileTold, Takes}
use Rattle.frame_cut.specs.Frames.{IsLong}
use Rattle.durable_run.specs.Groups.{Grouping}
use Rattle.durable_run.specs.Ends.{source_of}
use Rattle.durable_run.specs.Turns.{IsBehind}
use Rattle.durable_run.proofs.Bodies.{went_same, stopped_later}
use Rattle.durable_run.proofs.TurnEnds.{ended_input, ended_plain, ended_read, ended_disk, ended_output, no_memory, input_no_memory}
use Rattle.durable_run.proofs.Turning.{EndsHere, told_turned, told_end, told_read, told_long, told_disk, told_output}
use Rattle.durable_run.proofs.runs.turn.Goals as goal

pub answer_piece-requires-clause-group : goal.answer_piece-requires-clause-group
answer_piece-requires-clause-group g c =
    let group = c.requires.group in (
      group.0,
      (
        group.1.0,
        subst (λ h. Grouping g.M.Machine g.K.Disk group.0 c.args.journal h [] group.1.0) (sym c.in-Ok.ensures.given) group.1.1,
      ),
    )

pub returns-in-Ok-eq0-clause-outcome : goal.returns-in-Ok-eq0-clause-outcome
returns-in-Ok-eq0-clause-outcome g c =
    let M = g.M.Machine in
    let K = g.K.Disk in
    subst (λ h. WhileTold (g.D.Duplex.left c.args.device.now) (g.D.Duplex.left c.take_front.new.device)
    (EndsHere M K c.args.journal c.end_of.result c.close.result.1 (g.D.Sink.given c.args.device.now) h c.args.buffers.now.cutter c.args.size))
    (sym c.in-Ok-eq0.ensures.given)
    (told_end M K (g.D.Duplex.left c.args.device.now)
    (g.D.Duplex.left c.take_front.new.device) c.end_of.result c.args.journal c.close.result.1 (g.D.Sink.given c.args.device.now)
    c.args.buffers.now.cutter c.take_front.new.buf c.in-Ok-eq0.field-0 c.args.size
    c.in-Ok-eq0.field-0-test c.end_of.ensures c.requires.ready.partial c.requires.some c.close.ensures.disk c.in-Ok-eq0.ensures.bytes)

pub returns-in-Part-clause-turned : goal.returns-in-Part-clause-turned
returns-in-Part-clause-turned g c =
    let M = g.M.Machine in
    let K = g.K.Disk in
    let within : c.in-Ok.count ≤ length c.take_front.new.buf = omega (arith, c.in-Ok.ensures.bound, c.in-Ok.ensures.room, c.requires.within, c.requires.room) in
    let apart = g.met.D.Duplex.gives_are_apart c.answer_piece.new.output c.take_front.new.device c.in-Ok-answer_piece.ensures.kept in
    told_turned M K (g.D.Duplex.left c.args.device.now)
    (g.D.Duplex.left c.answer_piece.new.output) c.args.journal c.in-Ok-answer_piece.journal (g.D.Sink.given c.args.device.now)
    (g.D.Sink.given c.answer_piece.new.output) c.args.buffers.now.cutter c.take_front.new.buf c.answer_piece.new.cutter c.in-Ok.count
    (λ at bodies group. c.in-Ok-answer_piece.ensures.grouped at bodies
    (subst (λ h. Grouping M K at c.args.journal h [] bodies) (sym c.in-Ok.ensures.given) group)) within
    (subst (λ z. WhileTold (g.D.Duplex.left c.args.device.now) z (λ before after. Takes before after (Ok c.in-Ok.count) c.take_front.new.buf))
    (sym apart.0) c.in-Ok.ensures.bytes)

pub returns-in-Part-clause-grouped : goal.returns-in-Part-clause-grouped
returns-in-Part-clause-grouped g c = λ at bodies group.
    let on = c.in-Ok-answer_piece.ensures.grouped at bodies
    (subst (λ h. Grouping g.M.Machine g.K.Disk at c.args.journal h [] bodies) (sym c.in-Ok.ensures.given) group) in
    (on.0, on.1.1)

pub returns-in-Part-clause-ready : goal.returns-in-Part-clause-ready
returns-in-Part-clause-ready g c = record {
  partial = subst (λ n. IsBehind n c.answer_piece.new.cutter) c.in-Part.is c.in-Ok-answer_piece.ensures.behind;
  gathered = c.in-Ok-answer_piece.ensures.none;
  room = c.in-Ok-answer_piece.ensures.room ∙ c.requires.ready.room;
}

pub returns-in-Long-clause-outcome : goal.returns-in-Long-clause-outcome
returns-in-Long-clause-outcome g c =
    let M = g.M.Machine in
    let K = g.K.Disk in
    let within : c.in-Ok.count ≤ length c.take_front.new.buf = omega (arith, c.in-Ok.ensures.bound, c.in-Ok.ensures.room, c.requires.within, c.requires.room) in
    let apart = g.met.D.Duplex.gives_are_apart c.answer_piece.new.output c.take_front.new.device c.in-Ok-answer_piece.ensures.kept in
    told_long M K (g.D.Duplex.left c.args.device.now)
    (g.D.Duplex.left c.answer_piece.new.output) c.in-Long.len c.args.journal c.in-Ok-answer_piece.journal c.close-in-Long.result.1
    (g.D.Sink.given c.args.device.now) (g.D.Sink.given c.answer_piece.new.output) c.args.buffers.now.cutter c.take_front.new.buf
    c.answer_piece.new.cutter c.in-Ok.count c.args.size
    (λ at bodies group. c.in-Ok-answer_piece.ensures.grouped at bodies
    (subst (λ h. Grouping M K at c.args.journal h [] bodies) (sym c.in-Ok.ensures.given) group)) within c.in-Ok.ensures.bound
    (subst (λ n. IsBehind n c.answer_piece.new.cutter) c.in-Long.is c.in-Ok-answer_piece.ensures.behind) c.close-in-Long.ensures.disk
    (subst (λ z. WhileTold (g.D.Duplex.left c.args.device.now) z (λ before after. Takes before after (Ok c.in-Ok.count) c.take_front.new.buf))
    (sym apart.0) c.in-Ok.ensures.bytes)

pub returns-in-Err-Disk-clause-outcome : goal.returns-in-Err-Disk-clause-outcome
returns-in-Err-Disk-clause-outcome g c =
    let M = g.M.Machine in
    let K = g.K.Disk in
    let within : c.in-Ok.count ≤ length c.take_front.new.buf = omega (arith, c.in-Ok.ensures.bound, c.in-Ok.ensures.room, c.requires.within, c.requires.room) in
    let apart = g.met.D.Duplex.gives_are_apart c.answer_piece.new.output c.take_front.new.device c.in-Err-Disk.ensures.kept in
    told_disk M K (g.D.Duplex.left c.args.device.now)
    (g.D.Duplex.left c.answer_piece.new.output) c.args.journal c.in-Err-Disk.field-0 c.in-Err-Disk.disk (g.D.Sink.given c.args.device.now)
    (g.D.Sink.given c.answer_piece.new.output) c.args.buffers.now.cutter c.take_front.new.buf c.in-Ok.count c.args.size
    c.in-Err-Disk.field-0-is (λ at bodies group. c.in-Err-Disk.ensures.stopped at bodies
    (subst (λ h. Grouping M K at c.args.journal h [] bodies) (sym c.in-Ok.ensures.given) group)) within c.in-Ok.ensures.bound
    (subst (λ z. WhileTold (g.D.Duplex.left c.args.device.now) z (λ before after. Takes before after (Ok c.in-Ok.count) c.take_front.new.buf))
    (sym apart.0) c.in-Ok.ensures.bytes)

pub returns-in-Err-Output-clause-outcome : goal.returns-in-Err-Output-clause-outcome
returns-in-Err-Output-clause-outcome g c =
    let M = g.M.Machine in
    let K = g.K.Disk in
    let within : c.in-Ok.count ≤ length c.take_front.new.buf = omega (arith, c.in-Ok.ensures.bound, c.in-Ok.ensures.room, c.requires.within, c.requires.room) in
    let apart = g.met.D.Duplex.gives_are_apart c.answer_piece.new.output c.take_front.new.device c.in-Err-Output.ensures.kept in
    told_output M K (g.D.Duplex.left c.args.device.now)
    (g.D.Duplex.left c.answer_piece.new.output) c.args.journal c.in-Err-Output.field-0 c.in-Err-Output.disk (g.D.Sink.given c.args.device.now)
    (g.D.Sink.given c.answer_piece.new.output) c.args.buffers.now.cutter c.take_front.new.buf c.in-Ok.count c.args.size
    c.in-Err-Output.field-0-is (λ at bodies group. c.in-Err-Output.ensures.stopped at bodies
    (subst (λ h. Grouping M K at c.args.journal h [] bodies) (sym c.in-Ok.ensures.given) group)) within c.in-Ok.ensures.bound
    (subst (λ z. WhileTold (g.D.Duplex.left c.args.device.now) z (λ before after. Takes before after (Ok c.in-Ok.count) c.take_front.new.buf))
    (sym apart.0) c.in-Ok.ensures.bytes)

pub returns-in-Err-clause-outcome : goal.returns-in-Err-clause-outcome
returns-in-Err-clause-outcome g c =
    let M = g.M.Machine in
    let K = g.K.Disk in
    subst (λ h. WhileTold (g.D.Duplex.left c.args.device.now) (g.D.Duplex.left c.take_front.new.device)
    (EndsHere M K c.args.journal ReadFault c.close-in-Err.result.1 (g.D.Sink.given c.args.device.now) h c.args.buffers.now.cutter c.args.size))
    (sym c.in-Err.ensures.given)
    (told_read M K (g.D.Duplex.left c.args.device.now)
    (g.D.Duplex.left c.take_front.new.device) c.args.journal c.close-in-Err.result.1 (g.D.Sink.given c.args.device.now) c.args.buffers.now.cutter c.args.size
    c.requires.ready.partial c.requires.some c.close-in-Err.ensures.disk c.in-Err.ensures.bytes)

pub returns-in-Ok-eq0-clause-ended : goal.returns-in-Ok-eq0-clause-ended
returns-in-Ok-eq0-clause-ended g c =
    let K = g.K.Disk in
    ended_input K (source_of g.D.Duplex) g.D.Sink c.args.journal.disk c.close.result.1 c.args.device.now c.take_front.new.device
    c.args.device.now c.take_front.new.device (length c.args.buffers.now.cutter == 0) c.end_of.result c.end_of.ensures c.close.ensures.disk

pub returns-in-Long-clause-ended : goal.returns-in-Long-clause-ended
returns-in-Long-clause-ended g c =
    let K = g.K.Disk in
    let long : IsLong c.answer_piece.new.cutter c.in-Long.len = subst (λ n. IsBehind n c.answer_piece.new.cutter) c.in-Long.is
    c.in-Ok-answer_piece.ensures.behind in
    ended_plain K (source_of g.D.Duplex) g.D.Sink c.args.journal.disk c.in-Ok-answer_piece.journal.disk c.close-in-Long.result.1
    c.args.device.now c.answer_piece.new.output c.args.device.now c.answer_piece.new.output (LongFrame c.in-Long.len) long.2 refl
    c.close-in-Long.ensures.disk c.in-Ok-answer_piece.ensures.went

pub returns-in-Err-Disk-clause-ended : goal.returns-in-Err-Disk-clause-ended
returns-in-Err-Disk-clause-ended g c =
    let K = g.K.Disk in
    ended_disk K (source_of g.D.Duplex) g.D.Sink c.args.journal.disk c.in-Err-Disk.disk c.args.device.now c.answer_piece.new.output
    c.args.device.now c.answer_piece.new.output c.in-Err-Disk.field-0 c.in-Err-Disk.field-0-is
    (stopped_later K g.D.Sink c.args.journal.disk c.args.journal.disk c.args.device.now c.take_front.new.device c.answer_piece.new.output
    c.in-Err-Disk.field-0 (went_same K c.args.journal.disk) (omega (arith, c.in-Ok.ensures.faults)) c.in-Err-Disk.ensures.fault)

pub returns-in-Err-Output-clause-ended : goal.returns-in-Err-Output-clause-ended
returns-in-Err-Output-clause-ended g c =
    let K = g.K.Disk in
    ended_output K (source_of g.D.Duplex) g.D.Sink c.args.journal.disk c.in-Err-Output.disk c.args.device.now c.answer_piece.new.output
    c.args.device.now c.answer_piece.new.output c.in-Err-Output.field-0 c.in-Err-Output.field-0-is
    (stopped_later K g.D.Sink c.args.journal.disk c.args.journal.disk c.args.device.now c.take_front.new.device c.answer_piece.new.output
    c.in-Err-Output.field-0 (went_same K c.args.journal.disk) (omega (arith, c.in-Ok.ensures.faults)) c.in-Err-Output.ensures.fault)

pub returns-in-Err-clause-ended : goal.returns-in-Err-clause-ended
returns-in-Err-clause-ended g c =
    let K = g.K.Disk in
    ended_read K (source_of g.D.Duplex) g.D.Sink c.args.journal.disk c.close-in-Err.result.1 c.args.device.now c.take_front.new.device
    c.args.device.now c.take_front.new.device c.in-Err.ensures.cause.failed c.close-in-Err.ensures.disk

pub returns-in-Part-clause-room : goal.returns-in-Part-clause-room
returns-in-Part-clause-room g c = c.in-Ok.ensures.room ∙ c.requires.room

pub returns-in-Long-clause-room : goal.returns-in-Long-clause-room
returns-in-Long-clause-room g c = c.in-Ok.ensures.room ∙ c.requires.room

pub returns-in-Err-Disk-clause-room : goal.returns-in-Err-Disk-clause-room
returns-in-Err-Disk-clause-room g c = c.in-Ok.ensures.room ∙ c.requires.room

pub returns-in-Err-Output-clause-room : goal.returns-in-Err-Output-clause-room
returns-in-Err-Output-clause-room g c = c.in-Ok.ensures.room ∙ c.requires.room

pub returns-in-Err-clause-room : goal.returns-in-Err-clause-room
returns-in-Err-clause-room g c = c.in-Err.ensures.room ∙ c.requires.room

pub returns-in-Ok-eq0-clause-room : goal.returns-in-Ok-eq0-clause-room
returns-in-Ok-eq0-clause-room g c = c.in-Ok-eq0.ensures.room ∙ c.requires.room

pub returns-in-Part-clause-read_later : goal.returns-in-Part-clause-read_later
returns-in-Part-clause-read_later g c =
    let apart = g.met.D.Duplex.gives_are_apart c.answer_piece.new.output c.take_front.new.device c.in-Ok-answer_piece.ensures.kept in
    omega (arith, apart.1, c.in-Ok.ensures.cause.later)

pub returns-in-Part-clause-write_later : goal.returns-in-Part-clause-write_later
returns-in-Part-clause-write_later g c = omega (arith, c.in-Ok.ensures.faults, c.in-Ok-answer_piece.ensures.write_later)

pub returns-in-Part-clause-told : goal.returns-in-Part-clause-told
returns-in-Part-clause-told g c =
    let apart = g.met.D.Duplex.gives_are_apart c.answer_piece.new.output c.take_front.new.device c.in-Ok-answer_piece.ensures.kept in
    ◌∙◌ {a = g.D.Duplex.takes c.answer_piece.new.output} apart.2 c.in-Ok.ensures.told

pub returns-in-Part-clause-parts : goal.returns-in-Part-clause-parts
returns-in-Part-clause-parts g c =
    let apart = g.met.D.Duplex.gives_are_apart c.answer_piece.new.output c.take_front.new.device c.in-Ok-answer_piece.ensures.kept in
    ◌∙◌ {a = g.D.Duplex.parts c.answer_piece.new.output} apart.3 c.in-Ok.ensures.parts

pub returns-in-Long-clause-read_later : goal.returns-in-Long-clause-read_later
returns-in-Long-clause-read_later g c =
    let apart = g.met.D.Duplex.gives_are_apart c.answer_piece.new.output c.take_front.new.device c.in-Ok-answer_piece.ensures.kept in
    omega (arith, apart.1, c.in-Ok.ensures.cause.later)

pub returns-in-Long-clause-write_later : goal.returns-in-Long-clause-write_later
returns-in-Long-clause-write_later g c = omega (arith, c.in-Ok.ensures.faults, c.in-Ok-answer_piece.ensures.write_later)

pub returns-in-Long-clause-told : goal.returns-in-Long-clause-told
returns-in-Long-clause-told g c =
    let apart = g.met.D.Duplex.gives_are_apart c.answer_piece.new.output c.take_front.new.device c.in-Ok-answer_piece.ensures.kept in
    ◌∙◌ {a = g.D.Duplex.takes c.answer_piece.new.output} apart.2 c.in-Ok.ensures.told

pub returns-in-Long-clause-parts : goal.returns-in-Long-clause-parts
returns-in-Long-clause-parts g c =
    let apart = g.met.D.Duplex.gives_are_apart c.answer_piece.new.output c.take_front.new.device c.in-Ok-answer_piece.ensures.kept in
    ◌∙◌ {a = g.D.Duplex.parts c.answer_piece.new.output} apart.3 c.in-Ok.ensures.parts

pub returns-in-Err-Disk-clause-read_later : goal.returns-in-Err-Disk-clause-read_later
returns-in-Err-Disk-clause-read_later g c =
    let apart = g.met.D.Duplex.gives_are_apart c.answer_piece.new.output c.take_front.new.device c.in-Err-Disk.ensures.kept in
    omega (arith, apart.1, c.in-Ok.ensures.cause.later)

pub returns-in-Err-Disk-clause-write_later : goal.returns-in-Err-Disk-clause-write_later
returns-in-Err-Disk-clause-write_later g c = omega (arith, c.in-Ok.ensures.faults, c.in-Err-Disk.ensures.write_later)

pub returns-in-Err-Disk-clause-told : goal.returns-in-Err-Disk-clause-told
returns-in-Err-Disk-clause-told g c =
    let apart = g.met.D.Duplex.gives_are_apart c.answer_piece.new.output c.take_front.new.device c.in-Err-Disk.ensures.kept in
    ◌∙◌ {a = g.D.Duplex.takes c.answer_piece.new.output} apart.2 c.in-Ok.ensures.told

pub returns-in-Err-Disk-clause-parts : goal.returns-in-Err-Disk-clause-parts
returns-in-Err-Disk-clause-parts g c =
    let apart = g.met.D.Duplex.gives_are_apart c.answer_piece.new.output c.take_front.new.device c.in-Err-Disk.ensures.kept in
    ◌∙◌ {a = g.D.Duplex.parts c.answer_piece.new.output} apart.3 c.in-Ok.ensures.parts

pub returns-in-Err-Output-clause-read_later : goal.returns-in-Err-Output-clause-read_later
returns-in-Err-Output-clause-read_later g c =
    let apart = g.met.D.Duplex.gives_are_apart c.answer_piece.new.output c.take_front.new.device c.in-Err-Output.ensures.kept in
    omega (arith, apart.1, c.in-Ok.ensures.cause.later)

pub returns-in-Err-Output-clause-write_later : goal.returns-in-Err-Output-clause-write_later
returns-in-Err-Output-clause-write_later g c = omega (arith, c.in-Ok.ensures.faults, c.in-Err-Output.ensures.write_later)

pub returns-in-Err-Output-clause-told : goal.returns-in-Err-Output-clause-told
returns-in-Err-Output-clause-told g c =
    let apart = g.met.D.Duplex.gives_are_apart c.answer_piece.new.output c.take_front.new.device c.in-Err-Output.ensures.kept in
    ◌∙◌ {a = g.D.Duplex.takes c.answer_piece.new.output} apart.2 c.in-Ok.ensures.told

pub returns-in-Err-Output-clause-parts : goal.returns-in-Err-Output-clause-parts
returns-in-Err-Output-clause-parts g c =
    let apart = g.met.D.Duplex.gives_are_apart c.answer_piece.new.output c.take_front.new.device c.in-Err-Output.ensures.kept in
    ◌∙◌ {a = g.D.Duplex.parts c.answer_piece.new.output} apart.3 c.in-Ok.ensures.parts

pub returns-in-Long-clause-memory : goal.returns-in-Long-clause-memory
returns-in-Long-clause-memory g c = λ e. no_memory (LongFrame c.in-Long.len) refl e

pub returns-in-Ok-eq0-clause-memory : goal.returns-in-Ok-eq0-clause-memory
returns-in-Ok-eq0-clause-memory g c = λ e. input_no_memory (length c.args.buffers.now.cutter == 0) c.end_of.result c.end_of.ensures e

pub returns-in-Err-Disk-clause-memory : goal.returns-in-Err-Disk-clause-memory
returns-in-Err-Disk-clause-memory g c = λ e. no_memory DiskFault refl e

pub returns-in-Err-Output-clause-memory : goal.returns-in-Err-Output-clause-memory
returns-in-Err-Output-clause-memory g c = λ e. no_memory WriteFault refl e

pub returns-in-Err-clause-memory : goal.returns-in-Err-clause-memory
returns-in-Err-clause-memory g c = λ e. no_memory ReadFault refl e
