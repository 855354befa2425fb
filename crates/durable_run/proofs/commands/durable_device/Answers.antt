use Rattle.std.proofs.Common.{◌⊎◌, arith}
use Rattle.tardis_io.specs.declared.statuses.Status.TheVariants.{DiskFault}
use Rattle.plain_site.specs.Site.{opening}
use Rattle.plain_site.specs.Step.{site_machine}
use Rattle.durable_run.specs.Ends.{NotOpened, RanPromptly, source_of}
use Rattle.durable_run.proofs.Stores.{rose_back, no_file, over_disk, unread, unwritten}
use Rattle.durable_run.proofs.commands.durable_device.Goals as goal

pub returns-in-Ok-clause-ends : goal.returns-in-Ok-clause-ends
returns-in-Ok-clause-ends g c =
    let K = g.S.Disk.Disk in
    let S = g.S.Store in
    over_disk S K (source_of g.D.Duplex) g.D.Sink c.args.path.now
    (λ disk back. NotOpened site_machine K (source_of g.D.Duplex) g.D.Sink c.run_site_on_device-status.result.0 disk back c.args.device.now
    c.run_site_on_device-status.new.device c.args.device.now c.run_site_on_device-status.new.device
    ⊎ RanPromptly site_machine K g.D.Duplex g.D.Sink (opening c.args.limits c.args.own) c.args.limits.max_trail c.run_site_on_device-status.result.0
    disk back c.args.device.now c.run_site_on_device-status.new.device)
    c.args.store.now c.open_file.new.self c.put_back.new.self c.in-Ok.disk c.run_site_on_device-status.result.1 c.args.device.now
    c.run_site_on_device-status.new.device c.args.device.now c.run_site_on_device-status.new.device c.run_site_on_device-status.result.0 c.in-Ok.ensures.told c.put_back.ensures.told
    (λ h. c.in-Ok.ensures.honest h) (λ h. c.put_back.ensures.still (c.open_file.ensures.still h))
    (rose_back (K.faults c.in-Ok.disk) (K.faults c.run_site_on_device-status.result.1) (S.faults c.args.store.now) (S.faults c.open_file.new.self)
    (S.faults c.put_back.new.self) c.in-Ok.ensures.fresh c.in-Ok.ensures.cause.later c.put_back.ensures.faults)
    c.run_site_on_device-status.ensures.outcome c.run_site_on_device-status.ensures.exact c.run_site_on_device-status.ensures.ended
    (λ e. (c.run_site_on_device-status.ensures.nothing e, c.run_site_on_device-status.ensures.nothing e))

pub returns-in-Ok-clause-disk : goal.returns-in-Ok-clause-disk
returns-in-Ok-clause-disk g c =
    let K = g.S.Disk.Disk in
    let S = g.S.Store in
    record {
      later = omega (arith, c.in-Ok.ensures.cause.later, c.put_back.ensures.later);
      cause = λ e. rose_back (K.faults c.in-Ok.disk) (K.faults c.run_site_on_device-status.result.1) (S.faults c.args.store.now) (S.faults c.open_file.new.self)
          (S.faults c.put_back.new.self) c.in-Ok.ensures.fresh c.in-Ok.ensures.cause.later c.put_back.ensures.faults
          (c.run_site_on_device-status.ensures.ended.disk_rose e);
    }

pub returns-in-Ok-clause-read : goal.returns-in-Ok-clause-read
returns-in-Ok-clause-read g c = record { later = c.run_site_on_device-status.ensures.read_later; cause = c.run_site_on_device-status.ensures.ended.read_rose }

pub returns-in-Ok-clause-write : goal.returns-in-Ok-clause-write
returns-in-Ok-clause-write g c = record { later = c.run_site_on_device-status.ensures.write_later; cause = c.run_site_on_device-status.ensures.ended.write_rose }

pub returns-in-Err-clause-ends : goal.returns-in-Err-clause-ends
returns-in-Err-clause-ends g c =
    let K = g.S.Disk.Disk in
    let S = g.S.Store in
    no_file S K (source_of g.D.Duplex) g.D.Sink c.args.path.now
    (λ disk back. NotOpened site_machine K (source_of g.D.Duplex) g.D.Sink DiskFault disk back c.args.device.now c.args.device.now c.args.device.now
    c.args.device.now ⊎ RanPromptly site_machine K g.D.Duplex g.D.Sink (opening c.args.limits c.args.own) c.args.limits.max_trail DiskFault disk back
    c.args.device.now c.args.device.now)
    c.args.store.now c.open_file.new.self c.args.device.now c.args.device.now
    c.in-Err.ensures.told c.in-Err.ensures.cause.failed (λ h. c.open_file.ensures.still h)

pub returns-in-Err-clause-read : goal.returns-in-Err-clause-read
returns-in-Err-clause-read g c = unread (g.D.Duplex.take_faults c.args.device.now)

pub returns-in-Err-clause-write : goal.returns-in-Err-clause-write
returns-in-Err-clause-write g c = unwritten (g.D.Sink.faults c.args.device.now)
