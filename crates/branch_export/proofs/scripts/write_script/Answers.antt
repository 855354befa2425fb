use Rattle.std.proofs.Common.{◌≡◌, ◌-◌, ◌≤◌, [], ◌∷◌, ◌++◌, ◌∙◌, Some, None, take, drop, refl, ap, subst, arith}
use Rattle.std.specs.Prelude.{flat_map}
use Rattle.wire_item.specs.Readings.{u64_front}
use Rattle.wire_item.proofs.Takings.{taken, untaken}
use Rattle.branch_export.specs.Exports.{entry_spelling}
use Rattle.branch_export.proofs.Scripting.{number-there, begins-split, scripting-first, scripting-next, scripting-lost, scripting-last}
use Rattle.branch_export.proofs.scripts.write_script.Goals as goal

pub unreachable-requires : goal.unreachable-requires
unreachable-requires g c =
    number-there c.args.export.now c.requires.export.0 c.requires.export.1
    (subst (λ b. u64_front b ≡ None) c.new-reader.ensures (untaken u64_front c.new-reader.result c.u64.new.self c.in_default.ensures))

pub loop-left-init : goal.loop-left-init
loop-left-init g c = record {
  scripting = λ es is.
      scripting-first (g.O.Sink.given c.args.output.now) c.args.export.now c.u64.new.self c.push.new.self c.in-Some.count es is
      (subst (λ b. u64_front b ≡ Some (c.in-Some.count, c.u64.new.self)) c.new-reader.ensures
      (taken u64_front c.new-reader.result c.u64.new.self c.in-Some.count c.in-Some.ensures))
      (c.push.ensures ∙ ap (λ z. z ++ (0 ∷ 0 ∷ 0 ∷ 4 ∷ 0 ∷ 1 ∷ 1 ∷ 1 ∷ [])) c.requires.none);
  later = omega arith;
}

pub write_group-requires-clause-entries : goal.write_group-requires-clause-entries
write_group-requires-clause-entries g c =
    let s = c.loop-left.invariant.scripting c.requires.export.0 c.requires.export.1 in
    let m = c.min-size.result in
    let few : m ≤ c.loop-left.left = omega (arith, c.min-size.ensures) in
    (take m s.more, flat_map entry_spelling (drop m s.more), begins-split c.loop-left.reader c.loop-left.left m s.more s.begins few)

pub loop-left-preserved : goal.loop-left-preserved
loop-left-preserved g c =
    let m = c.min-size.result in
    let few : m ≤ c.loop-left.left = omega (arith, c.min-size.ensures) in
    record {
      scripting = λ es is.
          let s = c.loop-left.invariant.scripting es is in
          scripting-next (g.O.Sink.given c.args.output.now) (g.O.Sink.given c.loop-left.output) (g.O.Sink.given c.make_room.new.output) c.loop-left.reader
          c.write_group.new.reader
          c.loop-left.gathered c.make_room.new.gathered c.write_group.new.out c.loop-left.left m (c.loop-left.left - m) es s c.in-Ok.ensures.moved
          c.loop-left-test.true c.min-size.ensures refl
          (c.write_group.ensures (take m s.more) (flat_map entry_spelling (drop m s.more))
          (begins-split c.loop-left.reader c.loop-left.left m s.more s.begins few));
      later = omega (arith, c.loop-left.invariant.later, c.make_room.ensures.cause.later);
    }

pub returns-in-Err-clause-script : goal.returns-in-Err-clause-script
returns-in-Err-clause-script g c = λ es is.
    scripting-lost (g.O.Sink.given c.args.output.now) (g.O.Sink.given c.loop-left.output) (g.O.Sink.given c.make_room.new.output) c.loop-left.reader
    c.loop-left.gathered c.loop-left.left es
    (c.loop-left.invariant.scripting es is) c.in-Err.ensures.moved

pub returns-clause-script : goal.returns-clause-script
returns-clause-script g c = λ es is.
    scripting-last (g.O.Sink.given c.args.output.now) (g.O.Sink.given c.loop-left.output) (g.O.Sink.given c.flush.new.output) c.loop-left.reader
    c.loop-left.gathered c.loop-left.left es c.flush.result
    (c.loop-left.invariant.scripting es is) (omega (arith, c.loop-left-test.false)) c.flush.ensures.given
