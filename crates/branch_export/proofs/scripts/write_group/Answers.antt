use Rattle.std.proofs.Common.{◌≡◌, ◌+◌, ◌-◌, ◌<◌, [], ◌∷◌, subst, arith}
use Rattle.wire_item.specs.Readings.{key_front, value_front}
use Rattle.wire_item.proofs.Takings.{taken, untaken}
use Rattle.wire_item.proofs.Things.{reads-key, reads-value}
use Rattle.branch_export.specs.Groups.{BeginsWith}
use Rattle.branch_export.proofs.Scripting.{put_frame, put-short, longer, key-there, value-there, grouping-first, grouping-next, grouping-last}
use Rattle.branch_export.proofs.scripts.write_group.Goals as goal

pub loop-place-init : goal.loop-place-init
loop-place-init c = record {
  grouping = λ es rest b.
      let all : c.args.size ≡ c.args.size - 0 = omega arith in
      grouping-first c.args.reader.now (c.args.size - 0) es rest c.args.out.now c.push.new.self (subst (λ n. BeginsWith c.args.reader.now n es rest) all b)
      c.push.ensures;
  room = omega (arith, longer c.args.out.now c.push.new.self (0 ∷ 0 ∷ 0 ∷ 4 ∷ 0 ∷ 1 ∷ 2 ∷ 0 ∷ []) c.push.ensures);
}

pub unreachable-requires : goal.unreachable-requires
unreachable-requires c =
    let g = c.loop-place.invariant.grouping c.requires.entries.0 c.requires.entries.1 c.requires.entries.2 in
    let some : 0 < c.args.size - c.loop-place._place = omega (arith, c.loop-place-test.true) in
    key-there c.loop-place.reader c.requires.entries.1 (c.args.size - c.loop-place._place) g.more g.begins some
    (untaken key_front c.loop-place.reader c.key.new.self c.in_default.ensures)

pub unreachable-requires-in_default-value : goal.unreachable-requires-in_default-value
unreachable-requires-in_default-value c =
    let g = c.loop-place.invariant.grouping c.requires.entries.0 c.requires.entries.1 c.requires.entries.2 in
    let some : 0 < c.args.size - c.loop-place._place = omega (arith, c.loop-place-test.true) in
    value-there c.loop-place.reader c.key.new.self c.requires.entries.1 c.in-Some.key.now (c.args.size - c.loop-place._place) g.more g.begins some
    (taken key_front c.loop-place.reader c.key.new.self c.in-Some.key.now c.in-Some.ensures)
    (untaken value_front c.key.new.self c.value.new.self c.in_default-value.ensures)

pub write_put-requires-clause-key : goal.write_put-requires-clause-key
write_put-requires-clause-key c =
    (reads-key.only c.loop-place.reader c.in-Some.key.now c.key.new.self
    (taken key_front c.loop-place.reader c.key.new.self c.in-Some.key.now c.in-Some.ensures)).0

pub write_put-requires-clause-value : goal.write_put-requires-clause-value
write_put-requires-clause-value c =
    (reads-value.only c.key.new.self c.in-Some-value.value.now c.value.new.self
    (taken value_front c.key.new.self c.value.new.self c.in-Some-value.value.now c.in-Some-value.ensures)).0

pub loop-place-preserved : goal.loop-place-preserved
loop-place-preserved c =
    let key = taken key_front c.loop-place.reader c.key.new.self c.in-Some.key.now c.in-Some.ensures in
    let value = taken value_front c.key.new.self c.value.new.self c.in-Some-value.value.now c.in-Some-value.ensures in
    let short = put-short c.in-Some.key.now c.in-Some-value.value.now (reads-key.only c.loop-place.reader c.in-Some.key.now c.key.new.self key).0
    (reads-value.only c.key.new.self c.in-Some-value.value.now c.value.new.self value).0 in
    let some : 0 < c.args.size - c.loop-place._place = omega (arith, c.loop-place-test.true) in
    let less : c.args.size - (c.loop-place._place + 1) ≡ c.args.size - c.loop-place._place - 1 = omega arith in
    record {
      grouping = λ es rest b.
          grouping-next c.loop-place.reader c.key.new.self c.value.new.self rest c.in-Some.key.now c.in-Some-value.value.now
          (c.args.size - c.loop-place._place) (c.args.size - (c.loop-place._place + 1))
          es c.args.out.now c.loop-place.out c.write_put.new.out (c.loop-place.invariant.grouping es rest b) some less key value c.write_put.ensures;
      room = omega (
        arith,
        c.loop-place.invariant.room,
        short,
        longer c.loop-place.out c.write_put.new.out (put_frame (c.in-Some.key.now, c.in-Some-value.value.now)) c.write_put.ensures,
      );
    }

pub returns : goal.returns
returns c = λ es rest b.
    let none : c.args.size - c.loop-place._place ≡ 0 = omega (arith, c.loop-place-test.false) in
    grouping-last c.loop-place.reader (c.args.size - c.loop-place._place) es rest c.args.out.now c.loop-place.out c.push-2.new.self
    (c.loop-place.invariant.grouping es rest b) none c.push-2.ensures
