use Rattle.std.proofs.Common.{◌⊎◌, inl, sym, subst}
use Rattle.plain_site.specs.Step.{site_machine}
use Rattle.durable_run.specs.Ends.{RanOn, NotOpened}
use Rattle.tardis_io.specs.Faults.{Rose}
use Rattle.durable_run.proofs.Running.{no_buffers, ended_none, exact_memory}
use Rattle.durable_run.proofs.site_runs.run_site_on.Goals as goal

pub run_durable-requires-clause-opening : goal.run_durable-requires-clause-opening
run_durable-requires-clause-opening g c =
    subst (λ s. g.A.AnySite.stands c.in-Ok.site s) (sym c.in-Ok.ensures.opened) c.in-Ok.ensures.stands

pub returns-in-Ok-clause-outcome : goal.returns-in-Ok-clause-outcome
returns-in-Ok-clause-outcome g c =
    let K = g.K.Disk in
    subst (λ s. NotOpened site_machine K g.I.Source g.O.Sink c.run_durable.result.0 c.args.disk
    c.run_durable.result.1 c.args.input.now c.run_durable.new.input c.args.output.now c.run_durable.new.output
    ⊎ RanOn site_machine K g.I.Source g.O.Sink s c.args.limits.max_trail c.run_durable.result.0
    c.args.disk c.run_durable.result.1 c.args.input.now c.run_durable.new.input c.args.output.now c.run_durable.new.output)
    c.in-Ok.ensures.opened c.run_durable.ensures.outcome

pub returns-in-Err-clause-outcome : goal.returns-in-Err-clause-outcome
returns-in-Err-clause-outcome g c =
    let K = g.K.Disk in
    inl (no_buffers site_machine K g.I.Source g.O.Sink c.args.disk
    c.args.input.now c.args.output.now)

pub returns-in-Err-clause-ended : goal.returns-in-Err-clause-ended
returns-in-Err-clause-ended g c =
    let K = g.K.Disk in
    ended_none K g.I.Source g.O.Sink
    c.args.disk c.args.input.now c.args.output.now

pub returns-in-Err-clause-exact : goal.returns-in-Err-clause-exact
returns-in-Err-clause-exact g c =
    let K = g.K.Disk in
    exact_memory (g.I.Source.left c.args.input.now) (Rose (K.faults c.args.disk) (K.faults c.args.disk))
    (Rose (g.I.Source.faults c.args.input.now) (g.I.Source.faults c.args.input.now))
    (Rose (g.O.Sink.faults c.args.output.now) (g.O.Sink.faults c.args.output.now))
