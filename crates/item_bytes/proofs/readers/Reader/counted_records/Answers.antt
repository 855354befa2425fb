use Rattle.std.proofs.Common.{refl, sym, ◌∙◌, ap, arith, ◌≡◌, ◌++◌, ◌∷◌, []}
use Rattle.wire_item.specs.Fronts.{times}
use Rattle.wire_item.specs.Readings.{record_front}
use Rattle.wire_item.proofs.Lists.{times-more, times-none}
use Rattle.wire_item.proofs.Takings.{making, unmade, makes, makes-none}
use Rattle.item_bytes.proofs.readers.Reader.counted_records.Goals as goal

pub loop-place-init : goal.loop-place-init
loop-place-init c = record { xs = []; reads = refl; made = c.new.ensures }

pub returns-in_err-record : goal.returns-in_err-record
returns-in_err-record c =
    let none = unmade record_front c.loop-place.self c.record.new.self c.in_err-record.ensures in
    makes-none (times record_front c.args.count) c.args.self.now c.record.new.self c.from_residual.result c.from_residual.ensures
    (times-none record_front c.loop-place._place c.args.count c.args.self.now c.loop-place.invariant.xs c.loop-place.self c.loop-place.invariant.reads none
    (omega arith))

pub loop-place-preserved : goal.loop-place-preserved
loop-place-preserved c =
    let read = making record_front c.loop-place.self c.record.new.self c.in_ok-record.record c.in_ok-record.ensures in
    record {
      xs = c.loop-place.invariant.xs ++ read.0 ∷ [];
      reads = times-more record_front c.loop-place._place c.args.self.now c.loop-place.invariant.xs c.loop-place.self read.0 c.record.new.self
          c.loop-place.invariant.reads read.1;
      made = c.pushed-records.ensures c.loop-place.invariant.xs read.0 c.loop-place.invariant.made read.2;
    }

pub returns : goal.returns
returns c =
    let same : c.loop-place._place ≡ c.args.count = omega arith in
    makes (times record_front c.args.count) c.args.self.now c.loop-place.self c.loop-place.records c.loop-place.invariant.xs
    (ap (λ k. times record_front k c.args.self.now) (sym same) ∙ c.loop-place.invariant.reads) c.loop-place.invariant.made
