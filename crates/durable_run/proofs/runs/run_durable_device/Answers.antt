use Rattle.std.proofs.Common.{inl, inr, refl}
use Rattle.tardis_io.specs.Faults.{Rose}
use Rattle.durable_run.specs.Groups.{Start}
use Rattle.durable_run.specs.Ends.{source_of}
use Rattle.durable_run.proofs.Running.{begun, exact_end, exact_memory, exact_fault, unopened_fault, unopened_memory, ended_fault, ended_memory, ended_later}
use Rattle.durable_run.proofs.Running.{rose_of}
use Rattle.durable_run.proofs.runs.run_durable_device.Goals as goal

pub answer_input-requires-clause-group : goal.answer_input-requires-clause-group
answer_input-requires-clause-group g c =
    let M = g.M.Machine in
    let K = g.K.Disk in
    let o = c.in-Ok-open_on.ensures.opened in
    let at : Start M.Plain g.row.K.Denot = record {
      entries = o.0;
      state = M.opening c.args.machine;
      disk = c.args.disk;
      given =
          g.D.Sink.given c.args.device.now;
      most = c.args.max_trail;
    } in
    let group = begun M K o.0 (M.opening c.args.machine) c.args.disk
    (g.D.Sink.given c.args.device.now) c.args.max_trail c.in-Ok-open_on.journal o.1.0 c.in-Ok-open_on.ensures.opening c.in-Ok-open_on.ensures.limit
    c.in-Ok-open_on.ensures.honest o.1.2 c.in-Ok-open_on.ensures.images in
    (at, group)

pub returns-in-Ok-open_on-clause-outcome : goal.returns-in-Ok-open_on-clause-outcome
returns-in-Ok-open_on-clause-outcome g c =
    let M = g.M.Machine in
    let K = g.K.Disk in
    let o = c.in-Ok-open_on.ensures.opened in
    let at : Start M.Plain g.row.K.Denot = record {
      entries = o.0;
      state = M.opening c.args.machine;
      disk = c.args.disk;
      given =
          g.D.Sink.given c.args.device.now;
      most = c.args.max_trail;
    } in
    let group = begun M K o.0 (M.opening c.args.machine) c.args.disk
    (g.D.Sink.given c.args.device.now) c.args.max_trail c.in-Ok-open_on.journal o.1.0 c.in-Ok-open_on.ensures.opening c.in-Ok-open_on.ensures.limit
    c.in-Ok-open_on.ensures.honest o.1.2 c.in-Ok-open_on.ensures.images in
    inr (record {
      ran = record { entries = o.0; found = o.1.2; outcome = c.answer_input.ensures.outcome at group };
      prompt = c.answer_input.ensures.prompt at group refl;
    })

pub returns-in-Ok-open_on-clause-exact : goal.returns-in-Ok-open_on-clause-exact
returns-in-Ok-open_on-clause-exact g c =
    let M = g.M.Machine in
    let K = g.K.Disk in
    let o = c.in-Ok-open_on.ensures.opened in
    let at : Start M.Plain g.row.K.Denot = record {
      entries = o.0;
      state = M.opening c.args.machine;
      disk = c.args.disk;
      given =
          g.D.Sink.given c.args.device.now;
      most = c.args.max_trail;
    } in
    let group = begun M K o.0 (M.opening c.args.machine) c.args.disk
    (g.D.Sink.given c.args.device.now) c.args.max_trail c.in-Ok-open_on.journal o.1.0 c.in-Ok-open_on.ensures.opening c.in-Ok-open_on.ensures.limit
    c.in-Ok-open_on.ensures.honest o.1.2 c.in-Ok-open_on.ensures.images in
    let e = ended_later M K (source_of g.D.Duplex) g.D.Sink
    c.args.disk c.in-Ok-open_on.journal.disk c.answer_input.result.1 c.args.device.now c.answer_input.new.device c.args.device.now
    c.answer_input.new.device c.answer_input.result.0 c.in-Ok-open_on.ensures.later c.in-Ok-open_on.ensures.honest c.answer_input.ensures.ended in
    exact_end M K at (g.D.Duplex.left c.args.device.now)
    (g.D.Duplex.left c.answer_input.new.device) c.answer_input.result.0 c.answer_input.result.1 (g.D.Sink.given c.answer_input.new.device)
    (Rose (K.faults c.args.disk) (K.faults c.answer_input.result.1))
    (Rose (g.D.Duplex.take_faults c.args.device.now) (g.D.Duplex.take_faults c.answer_input.new.device))
    (Rose (g.D.Sink.faults c.args.device.now) (g.D.Sink.faults c.answer_input.new.device))
    e.disk_rose e.read_rose e.write_rose (c.answer_input.ensures.outcome at group)

pub returns-in-Ok-open_on-clause-ended : goal.returns-in-Ok-open_on-clause-ended
returns-in-Ok-open_on-clause-ended g c =
    let M = g.M.Machine in
    let K = g.K.Disk in
    ended_later M K (source_of g.D.Duplex) g.D.Sink c.args.disk
    c.in-Ok-open_on.journal.disk c.answer_input.result.1 c.args.device.now c.answer_input.new.device c.args.device.now c.answer_input.new.device
    c.answer_input.result.0 c.in-Ok-open_on.ensures.later c.in-Ok-open_on.ensures.honest c.answer_input.ensures.ended

pub returns-in-Err-DiskFault-clause-outcome : goal.returns-in-Err-DiskFault-clause-outcome
returns-in-Err-DiskFault-clause-outcome g c =
    let M = g.M.Machine in
    let K = g.K.Disk in
    inl (unopened_fault M K (source_of g.D.Duplex) g.D.Sink c.args.disk
    c.in-Err-DiskFault.disk c.in-Err-DiskFault.field-0 c.args.device.now c.args.device.now c.in-Err-DiskFault.field-0-is c.in-Err-DiskFault.ensures.images)

pub returns-in-Err-DiskFault-clause-exact : goal.returns-in-Err-DiskFault-clause-exact
returns-in-Err-DiskFault-clause-exact g c =
    let M = g.M.Machine in
    let K = g.K.Disk in
    exact_fault (g.D.Duplex.left c.args.device.now) (Rose (K.faults c.args.disk) (K.faults c.in-Err-DiskFault.disk))
    (Rose (g.D.Duplex.take_faults c.args.device.now) (g.D.Duplex.take_faults c.args.device.now))
    (Rose (g.D.Sink.faults c.args.device.now) (g.D.Sink.faults c.args.device.now))
    (rose_of M K c.args.disk c.in-Err-DiskFault.disk
    c.in-Err-DiskFault.field-0 c.in-Err-DiskFault.field-0-is c.in-Err-DiskFault.ensures.failed)

pub returns-in-Err-DiskFault-clause-ended : goal.returns-in-Err-DiskFault-clause-ended
returns-in-Err-DiskFault-clause-ended g c =
    let M = g.M.Machine in
    let K = g.K.Disk in
    ended_fault M K (source_of g.D.Duplex) g.D.Sink c.args.disk
    c.in-Err-DiskFault.disk c.in-Err-DiskFault.field-0 c.args.device.now c.args.device.now c.in-Err-DiskFault.field-0-is
    c.in-Err-DiskFault.ensures.failed c.in-Err-DiskFault.ensures.later c.in-Err-DiskFault.ensures.honest

pub returns-clause-outcome : goal.returns-clause-outcome
returns-clause-outcome g c =
    let M = g.M.Machine in
    let K = g.K.Disk in
    inl (unopened_memory M K (source_of g.D.Duplex) g.D.Sink c.args.disk
    c.in-Err-NoMemory.disk c.in-Err-NoMemory.field-0 c.args.device.now c.args.device.now c.in-Err-NoMemory.field-0-is c.in-Err-NoMemory.ensures.images)

pub returns-clause-exact : goal.returns-clause-exact
returns-clause-exact g c =
    let M = g.M.Machine in
    let K = g.K.Disk in
    exact_memory (g.D.Duplex.left c.args.device.now) (Rose (K.faults c.args.disk) (K.faults c.in-Err-NoMemory.disk))
    (Rose (g.D.Duplex.take_faults c.args.device.now) (g.D.Duplex.take_faults c.args.device.now))
    (Rose (g.D.Sink.faults c.args.device.now) (g.D.Sink.faults c.args.device.now))

pub returns-clause-ended : goal.returns-clause-ended
returns-clause-ended g c =
    let M = g.M.Machine in
    let K = g.K.Disk in
    ended_memory M K (source_of g.D.Duplex) g.D.Sink c.args.disk
    c.in-Err-NoMemory.disk c.in-Err-NoMemory.field-0 c.args.device.now c.args.device.now c.in-Err-NoMemory.field-0-is c.in-Err-NoMemory.ensures.later
    c.in-Err-NoMemory.ensures.honest
