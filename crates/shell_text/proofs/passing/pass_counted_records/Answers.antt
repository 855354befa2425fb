use Rattle.std.proofs.Common.{◌≡◌, [], ◌∷◌, ◌++◌, None, ap, sym, ◌∙◌, refl, arith}
use Rattle.wire_item.specs.Fronts.{times}
use Rattle.wire_item.specs.Readings.{record_front}
use Rattle.wire_item.proofs.Lists.{times-more, times-none}
use Rattle.wire_item.proofs.Takings.{making, unmade, makes, makes-none}
use Rattle.shell_text.proofs.Passings.{lacking}
use Rattle.shell_text.proofs.passing.pass_counted_records.Goals as goal

pub loop-place-init : goal.loop-place-init
loop-place-init c = record { xs = []; reads = refl; made = tt }

pub returns-then-not-pass_record : goal.returns-then-not-pass_record
returns-then-not-pass_record c =
    let none = unmade record_front c.loop-place.reader c.pass_record.new.reader c.if-not-pass_record.ensures in
    makes-none (times record_front c.args.count) c.args.reader.now c.pass_record.new.reader None refl
    (times-none record_front c.loop-place._place c.args.count c.args.reader.now c.loop-place.invariant.xs c.loop-place.reader c.loop-place.invariant.reads
    none (omega arith))

pub loop-place-preserved : goal.loop-place-preserved
loop-place-preserved c =
    let read = making record_front c.loop-place.reader c.pass_record.new.reader lacking c.if-not-pass_record.ensures in
    record {
      xs = c.loop-place.invariant.xs ++ read.0 ∷ [];
      reads = times-more record_front c.loop-place._place c.args.reader.now c.loop-place.invariant.xs c.loop-place.reader read.0 c.pass_record.new.reader
          c.loop-place.invariant.reads read.1;
      made = tt;
    }

pub returns : goal.returns
returns c =
    let same : c.loop-place._place ≡ c.args.count = omega arith in
    makes (times record_front c.args.count) c.args.reader.now c.loop-place.reader lacking c.loop-place.invariant.xs
    (ap (λ k. times record_front k c.args.reader.now) (sym same) ∙ c.loop-place.invariant.reads) tt
