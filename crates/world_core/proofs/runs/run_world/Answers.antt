use Rattle.std.proofs.Common.{◌≡◌}
use Rattle.tardis_io.proofs.Told.{same, weaker}
use Rattle.tardis_io.specs.declared.statuses.Status.TheVariants.{NoMemory}
use Rattle.plain_world.specs.Worlds.{opening_world, world_limits}
use Rattle.world_core.specs.Held.{WorldStands}
use Rattle.world_core.specs.Runs.{WorldOutcome, WorldFrom}
use Rattle.world_core.proofs.Running.{no_run, run_from}
use Rattle.world_core.proofs.runs.run_world.Goals as goal

pub returns-in-Ok-clause-outcome : goal.returns-in-Ok-clause-outcome
returns-in-Ok-clause-outcome g c =
    let world = opening_world (world_limits c.args.sites) in
    let status = c.answer_world.result in
    let old = g.O.Sink.given c.args.output.now in
    let new = g.O.Sink.given c.answer_world.new.output in
    weaker (g.I.Source.left c.args.input.now) (g.I.Source.left c.answer_world.new.input)
    (WorldOutcome status (WorldStands g.A.AnySite.stands c.in-Ok.world) (WorldStands g.A.AnySite.stands c.answer_world.new.world) old new)
    (WorldFrom world status old new)
    c.answer_world.ensures.outcome
    (λ x y o. run_from world (WorldStands g.A.AnySite.stands c.in-Ok.world) (WorldStands g.A.AnySite.stands c.answer_world.new.world) status old new x y c.in-Ok.ensures o)

pub returns-in-Err-clause-outcome : goal.returns-in-Err-clause-outcome
returns-in-Err-clause-outcome g c =
    let world = opening_world (world_limits c.args.sites) in
    same (g.I.Source.left c.args.input.now) (WorldFrom world NoMemory (g.O.Sink.given c.args.output.now) (g.O.Sink.given c.args.output.now))
    (λ x. no_run (λ w. w ≡ world) (λ w. Unit {0}) (g.O.Sink.given c.args.output.now) x (λ w h. tt))
