use Rattle.std.proofs.Common.{◌<◌, length, arith, length-set, ◌∙◌}
use Rattle.state_dag.specs.Table.{id_at}
use Rattle.record_store.proofs.Records.{slots-step}
use Rattle.record_store.proofs.RecordStore.slots_of.Goals as goal

pub loop-place-preserved : goal.loop-place-preserved
loop-place-preserved c =
    let within : c.loop-place.place < length c.loop-place.slots = omega (arith, c.loop-place.invariant.room, c.requires.few, c.loop-place-test.true) in
    record {
      room = length-set c.loop-place.slots c.loop-place.place c.in-Some.slot ∙ c.loop-place.invariant.room;
      slots = slots-step (id_at c.self.inside.dag) c.loop-place.slots c.args.states.now c.loop-place.place c.in-Some.slot _ within c.loop-place-test.true
          c.in-Some.ensures.found c.loop-place.invariant.slots;
    }
