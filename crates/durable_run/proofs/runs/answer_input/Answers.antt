use Rattle.std.proofs.Common.{◌+◌, ◌≤◌, ◌++◌, ◌∙◌, refl, arith}
use Rattle.tardis_io.specs.declared.statuses.Status.TheVariants.{Spent}
use Rattle.durable_run.proofs.TurnEnds.{ended_since, ended_plain, no_memory}
use Rattle.durable_run.proofs.Bodies.{went_then}
use Rattle.durable_run.specs.Ends.{source_of}
use Rattle.durable_run.proofs.Prompts.{prompt_more}
use Rattle.durable_run.proofs.Turning.{turns_on, turns_end, turns_spent}
use Rattle.site_run.specs.Endings.{most_taken}
use Rattle.durable_run.proofs.runs.answer_input.Goals as goal

pub turn-requires-clause-group : goal.turn-requires-clause-group
turn-requires-clause-group g c =
    let group = c.requires.group in
    let on = c.loop-taken.invariant.grouped group.0 group.1 in
    (group.0, (on.0, on.1))

pub loop-taken-preserved : goal.loop-taken-preserved
loop-taken-preserved g c =
    let M = g.M.Machine in
    let K = g.K.Disk in
    record {
      told = λ at group. turns_on M K at (g.D.Duplex.left c.args.device.now)
          (g.D.Duplex.left c.loop-taken.device) (g.D.Duplex.left c.turn.new.device) c.loop-taken.taken c.in-Ok.count c.loop-taken.journal c.in-Ok.answered
          (g.D.Sink.given c.loop-taken.device) (g.D.Sink.given c.turn.new.device) c.loop-taken.buffers.cutter c.turn.new.buffers.cutter
          (c.loop-taken.invariant.told at group) c.in-Ok.ensures.turned;
      grouped = λ at group.
          let on = c.loop-taken.invariant.grouped at group in
          let next = c.in-Ok.ensures.grouped at on.0 on.1 in
          (on.0 ++ next.0, next.1);
      prompt = λ at group was. prompt_more M K g.D.Duplex g.D.Sink at c.loop-taken.journal c.loop-taken.taken c.loop-taken.buffers.cutter
          c.args.device.now c.loop-taken.device c.turn.new.device (c.loop-taken.invariant.prompt at group was)
          c.in-Ok.ensures.told (c.loop-taken.invariant.told at group) c.loop-taken.invariant.ready.partial was;
      parts = ◌∙◌ {a = g.D.Duplex.parts c.turn.new.device} c.in-Ok.ensures.parts c.loop-taken.invariant.parts;
      ready = c.in-Ok.ensures.ready;
      room = c.in-Ok.ensures.room;
      within = omega (arith, c.in-Ok.ensures.count.1, c.min-size.ensures, c.loop-taken.invariant.within);
      went = went_then K c.args.journal.disk c.loop-taken.journal.disk c.in-Ok.answered.disk c.loop-taken.invariant.went c.in-Ok.ensures.went;
      read_later = omega (arith, c.in-Ok.ensures.read_later, c.loop-taken.invariant.read_later);
      write_later = omega (arith, c.in-Ok.ensures.write_later, c.loop-taken.invariant.write_later);
    }

pub returns-in-Err-clause-outcome : goal.returns-in-Err-clause-outcome
returns-in-Err-clause-outcome g c = λ at group.
    let M = g.M.Machine in
    let K = g.K.Disk in
    let few : c.loop-taken.taken + c.min-size.result ≤ most_taken = omega (arith, c.min-size.ensures, c.loop-taken.invariant.within) in
    turns_end M K at (g.D.Duplex.left c.args.device.now)
    (g.D.Duplex.left c.loop-taken.device) (g.D.Duplex.left c.turn.new.device) c.loop-taken.taken c.min-size.result c.loop-taken.journal c.in-Err.end.0
    c.in-Err.end.1 (g.D.Sink.given c.loop-taken.device) (g.D.Sink.given c.turn.new.device) c.loop-taken.buffers.cutter
    few (c.loop-taken.invariant.told at group) c.in-Err.ensures.outcome

pub returns-clause-outcome : goal.returns-clause-outcome
returns-clause-outcome g c = λ at group.
    let M = g.M.Machine in
    let K = g.K.Disk in
    turns_spent M K at (g.D.Duplex.left c.args.device.now)
    (g.D.Duplex.left c.loop-taken.device) c.loop-taken.taken c.loop-taken.journal c.close.result.1 (g.D.Sink.given c.loop-taken.device)
    c.loop-taken.buffers.cutter
    c.loop-taken.invariant.ready.partial c.loop-taken.invariant.within (omega arith) c.close.ensures.disk (c.loop-taken.invariant.told at group)

pub returns-in-Err-clause-ended : goal.returns-in-Err-clause-ended
returns-in-Err-clause-ended g c =
    let K = g.K.Disk in
    ended_since K (source_of g.D.Duplex) g.D.Sink c.args.journal.disk c.loop-taken.journal.disk c.in-Err.end.1 c.args.device.now
    c.loop-taken.device c.turn.new.device c.args.device.now c.loop-taken.device c.turn.new.device c.in-Err.end.0 c.loop-taken.invariant.went
    c.loop-taken.invariant.read_later c.loop-taken.invariant.write_later c.in-Err.ensures.ended

pub returns-in-Err-clause-read_later : goal.returns-in-Err-clause-read_later
returns-in-Err-clause-read_later g c = omega (arith, c.in-Err.ensures.read_later, c.loop-taken.invariant.read_later)

pub returns-in-Err-clause-write_later : goal.returns-in-Err-clause-write_later
returns-in-Err-clause-write_later g c = omega (arith, c.in-Err.ensures.write_later, c.loop-taken.invariant.write_later)

pub returns-in-Err-clause-memory : goal.returns-in-Err-clause-memory
returns-in-Err-clause-memory g c = c.in-Err.ensures.memory

pub returns-clause-ended : goal.returns-clause-ended
returns-clause-ended g c =
    let K = g.K.Disk in
    ended_plain K (source_of g.D.Duplex) g.D.Sink c.args.journal.disk c.loop-taken.journal.disk c.close.result.1 c.args.device.now
    c.loop-taken.device c.args.device.now c.loop-taken.device Spent tt refl c.close.ensures.disk c.loop-taken.invariant.went

pub returns-clause-memory : goal.returns-clause-memory
returns-clause-memory g c = λ e. no_memory Spent refl e

pub returns-in-Err-clause-prompt : goal.returns-in-Err-clause-prompt
returns-in-Err-clause-prompt g c = λ at group was.
    let M = g.M.Machine in
    let K = g.K.Disk in
    prompt_more M K g.D.Duplex g.D.Sink at c.loop-taken.journal c.loop-taken.taken c.loop-taken.buffers.cutter
    c.args.device.now c.loop-taken.device c.turn.new.device (c.loop-taken.invariant.prompt at group was)
    c.in-Err.ensures.told (c.loop-taken.invariant.told at group) c.loop-taken.invariant.ready.partial was

pub returns-clause-prompt : goal.returns-clause-prompt
returns-clause-prompt g c = c.loop-taken.invariant.prompt

pub returns-in-Err-clause-parts : goal.returns-in-Err-clause-parts
returns-in-Err-clause-parts g c = ◌∙◌ {a = g.D.Duplex.parts c.turn.new.device} c.in-Err.ensures.parts c.loop-taken.invariant.parts

pub returns-clause-parts : goal.returns-clause-parts
returns-clause-parts g c = c.loop-taken.invariant.parts
