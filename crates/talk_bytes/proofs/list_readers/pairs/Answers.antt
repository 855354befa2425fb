use Rattle.std.proofs.Common.{refl, sym, ◌∙◌, ap, arith, ◌≡◌, ◌++◌, ◌∷◌, []}
use Rattle.wire_item.specs.Fronts.{both, times}
use Rattle.wire_item.specs.Readings.{id_front, u32_front}
use Rattle.wire_item.proofs.Lists.{times-more, times-none}
use Rattle.wire_item.proofs.Takings.{taken, untaken, makes, makes-none}
use Rattle.talk_bytes.proofs.list_readers.pairs.Goals as goal

pub loop-place-init : goal.loop-place-init
loop-place-init c = record { xs = []; reads = refl; made = c.new.ensures }

pub returns-in_err-pair : goal.returns-in_err-pair
returns-in_err-pair c =
    let none = untaken (both id_front u32_front) c.loop-place.reader c.id_and_u32.new.reader c.in_err-pair.ensures in
    makes-none (times (both id_front u32_front) c.args.count) c.args.reader.now c.id_and_u32.new.reader c.from_residual.result c.from_residual.ensures
    (times-none (both id_front u32_front) c.loop-place._place c.args.count c.args.reader.now c.loop-place.invariant.xs c.loop-place.reader
    c.loop-place.invariant.reads none (omega arith))

pub loop-place-preserved : goal.loop-place-preserved
loop-place-preserved c =
    let read = taken (both id_front u32_front) c.loop-place.reader c.id_and_u32.new.reader c.in_ok-pair.pair c.in_ok-pair.ensures in
    record {
      xs = c.loop-place.invariant.xs ++ c.in_ok-pair.pair ∷ [];
      reads = times-more (both id_front u32_front) c.loop-place._place c.args.reader.now c.loop-place.invariant.xs c.loop-place.reader c.in_ok-pair.pair
          c.id_and_u32.new.reader c.loop-place.invariant.reads read;
      made = c.pushed-pairs.ensures c.loop-place.invariant.xs c.in_ok-pair.pair c.loop-place.invariant.made refl;
    }

pub returns : goal.returns
returns c =
    let same : c.loop-place._place ≡ c.args.count = omega arith in
    makes (times (both id_front u32_front) c.args.count) c.args.reader.now c.loop-place.reader c.loop-place.pairs c.loop-place.invariant.xs
    (ap (λ k. times (both id_front u32_front) k c.args.reader.now) (sym same) ∙ c.loop-place.invariant.reads) c.loop-place.invariant.made
