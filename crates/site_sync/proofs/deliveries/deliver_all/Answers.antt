use Rattle.std.proofs.Common.{◌≡◌, ◌∙◌, ◌<◌, Some, ap, slice_get, subst, arith, length}
use Rattle.tardis_base.specs.declared.records.Item.{Item}
use Rattle.trail_log.specs.declared.acted.Acted.TheVariants.{TrailFull, NoMemory}
use Rattle.dag_lock.specs.Named.{start_of}
use Rattle.site_sync.specs.Asking.{items, delivery}
use Rattle.site_sync.specs.Steps.{StepsOnce}
use Rattle.site_sync.specs.Delivering.{tally_with}
use Rattle.site_sync.proofs.Items.{items_few, length_items}
use Rattle.site_sync.proofs.Delivered.{delivered_fits, delivered_more, stops}
use Rattle.site_sync.proofs.deliveries.deliver_all.Goals as goal

pub with-tally-requires : goal.with-tally-requires
with-tally-requires g c =
    let few = items_few c.args.batch.now c.requires.valid in
    let all = length_items c.args.batch.now in
    let fits = delivered_fits g.M.Machine.opening g.M.Machine.plain (start_of c.args.lock.now) (items c.args.batch.now) c.args.pass c.loop-place.place
    c.loop-place.pass c.loop-place.tally c.loop-place.invariant in
    let low : c.loop-place.place < 65552 = omega (arith, few, all, c.loop-place-test.true, c.len.ensures, c.len-2.ensures) in
    record { room = (omega (arith, fits.applied, low), omega (arith, fits.known, low), omega (arith, fits.early, low), omega (arith, fits.refused, low)) }

pub loop-place-preserved : goal.loop-place-preserved
loop-place-preserved g c =
    let there : c.loop-place.place < length (items c.args.batch.now) =
    omega (arith, length_items c.args.batch.now, c.loop-place-test.true, c.len.ensures, c.len-2.ensures) in
    let step = λ (item : Item) (at : slice_get (items c.args.batch.now) c.loop-place.place ≡ Some item).
    subst (λ r. StepsOnce g.M.Machine.opening g.M.Machine.plain (start_of c.args.lock.now) c.loop-place.pass (delivery item) c.deliver_one-next.new.reply
    c.deliver_one-next.result.0 r) c.in-Done.is (c.deliver_one-next.ensures item at) in
    delivered_more g.M.Machine.opening g.M.Machine.plain (start_of c.args.lock.now) (items c.args.batch.now) c.args.pass c.loop-place.place
    c.loop-place.pass c.deliver_one-next.result.0 c.loop-place.tally c.with-tally.result c.deliver_one-next.new.reply there
    c.loop-place.invariant step (c.with-tally.ensures ∙ ap (tally_with c.loop-place.tally) c.bytes.ensures.same)

pub returns-in-TrailFull-clause-goes_on : goal.returns-in-TrailFull-clause-goes_on
returns-in-TrailFull-clause-goes_on g c =
    let there : c.loop-place.place < length (items c.args.batch.now) =
    omega (arith, length_items c.args.batch.now, c.loop-place-test.true, c.len.ensures, c.len-2.ensures) in
    let step = λ (item : Item) (at : slice_get (items c.args.batch.now) c.loop-place.place ≡ Some item).
    subst (λ r. StepsOnce g.M.Machine.opening g.M.Machine.plain (start_of c.args.lock.now) c.loop-place.pass (delivery item) c.deliver_one-next.new.reply
    c.deliver_one-next.result.0 r) c.in-TrailFull.is (c.deliver_one-next.ensures item at) in
    (stops g.M.Machine.opening g.M.Machine.plain (start_of c.args.lock.now) (items c.args.batch.now) c.args.pass c.loop-place.place c.loop-place.pass
    c.deliver_one-next.result.0 c.loop-place.tally c.deliver_one-next.new.reply (TrailFull c.in-TrailFull.bytes) (λ e. absurd (cc)) there
    c.loop-place.invariant step).0

pub returns-in-TrailFull-clause-delivers : goal.returns-in-TrailFull-clause-delivers
returns-in-TrailFull-clause-delivers g c =
    let there : c.loop-place.place < length (items c.args.batch.now) =
    omega (arith, length_items c.args.batch.now, c.loop-place-test.true, c.len.ensures, c.len-2.ensures) in
    let step = λ (item : Item) (at : slice_get (items c.args.batch.now) c.loop-place.place ≡ Some item).
    subst (λ r. StepsOnce g.M.Machine.opening g.M.Machine.plain (start_of c.args.lock.now) c.loop-place.pass (delivery item) c.deliver_one-next.new.reply
    c.deliver_one-next.result.0 r) c.in-TrailFull.is (c.deliver_one-next.ensures item at) in
    (stops g.M.Machine.opening g.M.Machine.plain (start_of c.args.lock.now) (items c.args.batch.now) c.args.pass c.loop-place.place c.loop-place.pass
    c.deliver_one-next.result.0 c.loop-place.tally c.deliver_one-next.new.reply (TrailFull c.in-TrailFull.bytes) (λ e. absurd (cc)) there
    c.loop-place.invariant step).1

pub returns-in-NoMemory-clause-goes_on : goal.returns-in-NoMemory-clause-goes_on
returns-in-NoMemory-clause-goes_on g c =
    let there : c.loop-place.place < length (items c.args.batch.now) =
    omega (arith, length_items c.args.batch.now, c.loop-place-test.true, c.len.ensures, c.len-2.ensures) in
    let step = λ (item : Item) (at : slice_get (items c.args.batch.now) c.loop-place.place ≡ Some item).
    subst (λ r. StepsOnce g.M.Machine.opening g.M.Machine.plain (start_of c.args.lock.now) c.loop-place.pass (delivery item) c.deliver_one-next.new.reply
    c.deliver_one-next.result.0 r) c.in-NoMemory.is (c.deliver_one-next.ensures item at) in
    (stops g.M.Machine.opening g.M.Machine.plain (start_of c.args.lock.now) (items c.args.batch.now) c.args.pass c.loop-place.place c.loop-place.pass
    c.deliver_one-next.result.0 c.loop-place.tally c.deliver_one-next.new.reply NoMemory (λ e. absurd (cc)) there
    c.loop-place.invariant step).0

pub returns-in-NoMemory-clause-delivers : goal.returns-in-NoMemory-clause-delivers
returns-in-NoMemory-clause-delivers g c =
    let there : c.loop-place.place < length (items c.args.batch.now) =
    omega (arith, length_items c.args.batch.now, c.loop-place-test.true, c.len.ensures, c.len-2.ensures) in
    let step = λ (item : Item) (at : slice_get (items c.args.batch.now) c.loop-place.place ≡ Some item).
    subst (λ r. StepsOnce g.M.Machine.opening g.M.Machine.plain (start_of c.args.lock.now) c.loop-place.pass (delivery item) c.deliver_one-next.new.reply
    c.deliver_one-next.result.0 r) c.in-NoMemory.is (c.deliver_one-next.ensures item at) in
    (stops g.M.Machine.opening g.M.Machine.plain (start_of c.args.lock.now) (items c.args.batch.now) c.args.pass c.loop-place.place c.loop-place.pass
    c.deliver_one-next.result.0 c.loop-place.tally c.deliver_one-next.new.reply NoMemory (λ e. absurd (cc)) there
    c.loop-place.invariant step).1
