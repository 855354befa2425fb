use Rattle.std.proofs.Common.{◌≡◌, ◌+◌, ◌++◌, Err, drop, length}
use Rattle.tardis_io.proofs.Told.{weaker}
use Rattle.site_sync.specs.Fetching.{Fetched}
use Rattle.site_sync.specs.declared.ends.SyncEnd.TheVariants.{LongFrame}
use Rattle.site_sync.proofs.Fetched.{answer_end, fetched_frame, fetched_long}
use Rattle.site_sync.proofs.fetches.read_batch.Goals as goal

pub returns-in-Long-clause-fetched : goal.returns-in-Long-clause-fetched
returns-in-Long-clause-fetched g c =
    weaker (g.D.Duplex.left c.args.device.now) (g.D.Duplex.left c.loop-body.device) (λ first left. first ≡ c.loop-body.cutter ++ left)
    (Fetched (Err (LongFrame c.in-Long.len)))
    c.loop-body.invariant.told (λ x y all. fetched_long c.loop-body.cutter x y c.in-Long.len c.in-Long.ensures.cut all)

pub returns-in-Frame-clause-fetched : goal.returns-in-Frame-clause-fetched
returns-in-Frame-clause-fetched g c =
    weaker (g.D.Duplex.left c.args.device.now) (g.D.Duplex.left c.loop-body.device) (λ first left. first ≡ c.loop-body.cutter ++ left)
    (Fetched c.batch_in.result) c.loop-body.invariant.told
    (λ x y all. fetched_frame c.in-Frame.body.now c.loop-body.cutter (drop (4 + length c.in-Frame.body.now) c.loop-body.cutter) x y
    c.batch_in.result c.in-Frame.ensures.cut.0
    c.in-Frame.ensures.cut.1 c.batch_in.ensures.answer all)

pub returns-in-Frame-clause-read : goal.returns-in-Frame-clause-read
returns-in-Frame-clause-read g c = λ e. absurd ((answer_end c.in-Frame.body.now c.batch_in.result c.batch_in.ensures.answer).0 e)

pub returns-in-Frame-clause-write : goal.returns-in-Frame-clause-write
returns-in-Frame-clause-write g c = λ e. (answer_end c.in-Frame.body.now c.batch_in.result c.batch_in.ensures.answer).1 e

pub returns-in-Frame-clause-no_dial : goal.returns-in-Frame-clause-no_dial
returns-in-Frame-clause-no_dial g c = λ e. (answer_end c.in-Frame.body.now c.batch_in.result c.batch_in.ensures.answer).2 e
