use Rattle.std.proofs.Common.{refl, sym, ◌∙◌, ap, arith, ◌≡◌, ◌++◌, ◌∷◌, []}
use Rattle.wire_item.specs.Fronts.{times}
use Rattle.wire_item.specs.Readings.{u32_front}
use Rattle.wire_item.proofs.Lists.{times-more, times-none}
use Rattle.wire_item.proofs.Takings.{taken, untaken, makes, makes-none}
use Rattle.talk_bytes.proofs.request_field_readers.numbers.Goals as goal

pub loop-place-init : goal.loop-place-init
loop-place-init c = record { xs = []; reads = refl; made = c.new.ensures }

pub returns-in_err-number : goal.returns-in_err-number
returns-in_err-number c =
    let none = untaken u32_front c.loop-place.reader c.u32.new.self c.in_err-number.ensures in
    makes-none (times u32_front c.args.count) c.args.reader.now c.u32.new.self c.from_residual.result c.from_residual.ensures
    (times-none u32_front c.loop-place._place c.args.count c.args.reader.now c.loop-place.invariant.xs c.loop-place.reader c.loop-place.invariant.reads
    none (omega arith))

pub loop-place-preserved : goal.loop-place-preserved
loop-place-preserved c =
    let read = taken u32_front c.loop-place.reader c.u32.new.self c.in_ok-number.number c.in_ok-number.ensures in
    record {
      xs = c.loop-place.invariant.xs ++ c.in_ok-number.number ∷ [];
      reads = times-more u32_front c.loop-place._place c.args.reader.now c.loop-place.invariant.xs c.loop-place.reader c.in_ok-number.number c.u32.new.self
          c.loop-place.invariant.reads read;
      made = c.pushed-numbers.ensures c.loop-place.invariant.xs c.in_ok-number.number c.loop-place.invariant.made refl;
    }

pub returns : goal.returns
returns c =
    let same : c.loop-place._place ≡ c.args.count = omega arith in
    makes (times u32_front c.args.count) c.args.reader.now c.loop-place.reader c.loop-place.numbers c.loop-place.invariant.xs
    (ap (λ k. times u32_front k c.args.reader.now) (sym same) ∙ c.loop-place.invariant.reads) c.loop-place.invariant.made
