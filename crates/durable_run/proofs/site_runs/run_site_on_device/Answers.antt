use Rattle.std.proofs.Common.{◌⊎◌, inl, sym, subst}
use Rattle.plain_site.specs.Step.{site_machine}
use Rattle.durable_run.specs.Ends.{RanPromptly, NotOpened, source_of}
use Rattle.tardis_io.specs.Faults.{Rose}
use Rattle.durable_run.proofs.Running.{no_buffers, ended_none, exact_memory}
use Rattle.durable_run.proofs.site_runs.run_site_on_device.Goals as goal

pub run_durable_device-requires-clause-opening : goal.run_durable_device-requires-clause-opening
run_durable_device-requires-clause-opening g c =
    subst (λ s. g.A.AnySite.stands c.in-Ok.site s) (sym c.in-Ok.ensures.opened) c.in-Ok.ensures.stands

pub returns-in-Ok-clause-outcome : goal.returns-in-Ok-clause-outcome
returns-in-Ok-clause-outcome g c =
    let K = g.K.Disk in
    subst (λ s. NotOpened site_machine K (source_of g.D.Duplex) g.D.Sink c.run_durable_device.result.0 c.args.disk
    c.run_durable_device.result.1 c.args.device.now c.run_durable_device.new.device c.args.device.now c.run_durable_device.new.device
    ⊎ RanPromptly site_machine K g.D.Duplex g.D.Sink s c.args.limits.max_trail c.run_durable_device.result.0
    c.args.disk c.run_durable_device.result.1 c.args.device.now c.run_durable_device.new.device)
    c.in-Ok.ensures.opened c.run_durable_device.ensures.outcome

pub returns-in-Err-clause-outcome : goal.returns-in-Err-clause-outcome
returns-in-Err-clause-outcome g c =
    let K = g.K.Disk in
    inl (no_buffers site_machine K (source_of g.D.Duplex) g.D.Sink c.args.disk
    c.args.device.now c.args.device.now)

pub returns-in-Err-clause-ended : goal.returns-in-Err-clause-ended
returns-in-Err-clause-ended g c =
    let K = g.K.Disk in
    ended_none K (source_of g.D.Duplex) g.D.Sink
    c.args.disk c.args.device.now c.args.device.now

pub returns-in-Err-clause-exact : goal.returns-in-Err-clause-exact
returns-in-Err-clause-exact g c =
    let K = g.K.Disk in
    exact_memory (g.D.Duplex.left c.args.device.now) (Rose (K.faults c.args.disk) (K.faults c.args.disk))
    (Rose (g.D.Duplex.take_faults c.args.device.now) (g.D.Duplex.take_faults c.args.device.now))
    (Rose (g.D.Sink.faults c.args.device.now) (g.D.Sink.faults c.args.device.now))
