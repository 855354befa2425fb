use Rattle.std.proofs.Common.{refl, sym, ◌∙◌, ap, arith, ◌≡◌, ◌++◌, ◌∷◌, []}
use Rattle.wire_item.specs.Fronts.{times}
use Rattle.wire_item.specs.Readings.{id_front}
use Rattle.wire_item.proofs.Lists.{times-more, times-none}
use Rattle.wire_item.proofs.Takings.{taken, untaken, makes, makes-none}
use Rattle.talk_bytes.proofs.list_readers.ids.Goals as goal

pub loop-place-init : goal.loop-place-init
loop-place-init c = record { xs = []; reads = refl; made = c.new.ensures }

pub returns-in_err-id : goal.returns-in_err-id
returns-in_err-id c =
    let none = untaken id_front c.loop-place.reader c.id.new.self c.in_err-id.ensures in
    makes-none (times id_front c.args.count) c.args.reader.now c.id.new.self c.from_residual.result c.from_residual.ensures
    (times-none id_front c.loop-place._place c.args.count c.args.reader.now c.loop-place.invariant.xs c.loop-place.reader c.loop-place.invariant.reads none
    (omega arith))

pub loop-place-preserved : goal.loop-place-preserved
loop-place-preserved c =
    let read = taken id_front c.loop-place.reader c.id.new.self c.in_ok-id.id c.in_ok-id.ensures in
    record {
      xs = c.loop-place.invariant.xs ++ c.in_ok-id.id ∷ [];
      reads = times-more id_front c.loop-place._place c.args.reader.now c.loop-place.invariant.xs c.loop-place.reader c.in_ok-id.id c.id.new.self
          c.loop-place.invariant.reads read;
      made = c.pushed-ids.ensures c.loop-place.invariant.xs c.in_ok-id.id c.loop-place.invariant.made refl;
    }

pub returns : goal.returns
returns c =
    let same : c.loop-place._place ≡ c.args.count = omega arith in
    makes (times id_front c.args.count) c.args.reader.now c.loop-place.reader c.loop-place.ids c.loop-place.invariant.xs
    (ap (λ k. times id_front k c.args.reader.now) (sym same) ∙ c.loop-place.invariant.reads) c.loop-place.invariant.made
