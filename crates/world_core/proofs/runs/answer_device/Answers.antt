use Rattle.tardis_io.proofs.Told.{same}
use Rattle.tardis_io.specs.declared.statuses.Status.TheVariants.{NoMemory}
use Rattle.world_core.specs.Held.{WorldStands}
use Rattle.world_core.specs.Runs.{WorldOutcome}
use Rattle.world_core.proofs.Running.{no_run}
use Rattle.world_core.proofs.runs.answer_device.Goals as goal

pub returns-in-Err-clause-outcome : goal.returns-in-Err-clause-outcome
returns-in-Err-clause-outcome g c =
    same (g.D.Duplex.left c.args.device.now)
    (WorldOutcome NoMemory (WorldStands g.A.AnySite.stands c.args.world.now) (WorldStands g.A.AnySite.stands c.args.world.now) (g.D.Sink.given c.args.device.now) (g.D.Sink.given c.args.device.now))
    (λ x. no_run (WorldStands g.A.AnySite.stands c.args.world.now) (WorldStands g.A.AnySite.stands c.args.world.now) (g.D.Sink.given c.args.device.now) x (λ w h. h))
