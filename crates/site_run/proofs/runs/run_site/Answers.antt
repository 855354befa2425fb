use Rattle.std.proofs.Common.{◌≡◌, map, subst, rules}
use Rattle.tardis_io.specs.Told.{WhileTold}
use Rattle.frame_cut.specs.Events.{event_of}
use Rattle.site_run.specs.Machines.{Answered}
use Rattle.site_run.specs.Endings.{Outcome, shape_of}
use Rattle.site_run.proofs.runs.run_site.Goals as goal

pub returns-clause-outcome : goal.returns-clause-outcome
returns-clause-outcome g c =
    let input : c.run_device.new.device.input.now ≡ c.input-1.given.0 = search rules in
    let output : c.run_device.new.device.output.now ≡ c.output-1.given.0 = search rules in
    subst (λ i. WhileTold (g.I.Source.left c.args.input.now) (g.I.Source.left i)
    (λ first left. Outcome c.run_device.result (g.M.Machine.stands c.args.machine.now)
    (λ s bodies. Answered g.M.Machine.plain (shape_of c.run_device.result) (g.M.Machine.stands c.run_device.new.machine)
    (g.O.Sink.given c.args.output.now) (g.O.Sink.given c.output-1.given.0) s (map event_of bodies)) first left)) input
    (subst (λ o. WhileTold (g.I.Source.left c.args.input.now) (g.I.Source.left c.run_device.new.device.input.now)
    (λ first left. Outcome c.run_device.result (g.M.Machine.stands c.args.machine.now)
    (λ s bodies. Answered g.M.Machine.plain (shape_of c.run_device.result) (g.M.Machine.stands c.run_device.new.machine)
    (g.O.Sink.given c.args.output.now) (g.O.Sink.given o) s (map event_of bodies)) first left)) output c.run_device.ensures.outcome)
