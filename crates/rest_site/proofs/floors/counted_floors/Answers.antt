use Rattle.std.proofs.Common.{refl, sym, ◌∙◌, ap, arith, ◌≡◌, ◌++◌, ◌∷◌, []}
use Rattle.wire_item.specs.Fronts.{times}
use Rattle.wire_item.proofs.Lists.{times-more, times-none}
use Rattle.wire_item.proofs.Takings.{taken, untaken, makes, makes-none}
use Rattle.rest_site.specs.Takings.{told_floor_front}
use Rattle.rest_site.proofs.floors.counted_floors.Goals as goal

pub loop-place-init : goal.loop-place-init
loop-place-init c = record { xs = []; reads = refl; made = c.new.ensures }

pub returns-in_err-floor : goal.returns-in_err-floor
returns-in_err-floor c =
    let none = untaken told_floor_front c.loop-place.reader c.read_floor.new.reader c.in_err-floor.ensures in
    makes-none (times told_floor_front c.args.count) c.args.reader.now c.read_floor.new.reader c.from_residual.result c.from_residual.ensures
    (times-none told_floor_front c.loop-place._place c.args.count c.args.reader.now c.loop-place.invariant.xs c.loop-place.reader c.loop-place.invariant.reads none
    (omega arith))

pub loop-place-preserved : goal.loop-place-preserved
loop-place-preserved c =
    let floor = c.in_ok-floor.floor in
    let read = taken told_floor_front c.loop-place.reader c.read_floor.new.reader floor c.in_ok-floor.ensures in
    record {
      xs = c.loop-place.invariant.xs ++ floor ∷ [];
      reads = times-more told_floor_front c.loop-place._place c.args.reader.now c.loop-place.invariant.xs c.loop-place.reader floor c.read_floor.new.reader
          c.loop-place.invariant.reads read;
      made = c.pushed-floors.ensures c.loop-place.invariant.xs floor c.loop-place.invariant.made refl;
    }

pub returns : goal.returns
returns c =
    let same : c.loop-place._place ≡ c.args.count = omega arith in
    makes (times told_floor_front c.args.count) c.args.reader.now c.loop-place.reader c.loop-place.floors c.loop-place.invariant.xs
    (ap (λ k. times told_floor_front k c.args.reader.now) (sym same) ∙ c.loop-place.invariant.reads) c.loop-place.invariant.made
