use Rattle.std.proofs.Common.{length, map, refl, ap, arith}
use Rattle.std.proofs.lemmas.List.{length-map}
use Rattle.state_dag.specs.Table.{Entry}
use Rattle.twin_stores.specs.Tables.{outline}
use Rattle.twin_stores.proofs.Places.{same-all}
use Rattle.twin_stores.proofs.tables.say_the_same.Goals as goal

pub returns : goal.returns
returns c =
    let es = c.args.one.now.entries in
    let fs = c.args.other.now.entries in
    let first = length-map es (outline c.args.one.now) in
    let second = length-map fs (outline c.args.other.now) in
    let slots = ap length c.kept_slots-kept.ensures.is in
    let others = ap length c.kept_slots.ensures.is in
    let slots_long = length-map es (λ (e : Entry). e.slot) in
    let others_long = length-map fs (λ (e : Entry). e.slot) in
    let long = c.if-kept_slots-kept.false in (
      λ _. same-all (map (outline c.args.one.now) es) (map (outline c.args.other.now) fs) (omega arith)
          (λ k lt. c.loop-place.invariant k (let end = c.loop-place-test.false in omega arith)),
      λ _. refl,
    )
