use Rattle.std.proofs.Common.{[], None, sym, refl, arith}
use Rattle.tardis_base.specs.declared.ids.StateId.{StateId}
use Rattle.tardis_base.specs.Ids.{is_before, are_ascending}
use Rattle.wire_item.specs.Fronts.{only_if, times}
use Rattle.wire_item.specs.Readings.{id_front}
use Rattle.wire_item.proofs.Takings.{taken, untaken, makes-none}
use Rattle.wire_item.proofs.Progress.{progress-none, progress-breaks, progress-more, progress-whole}
use Rattle.wire_item.proofs.Orders.{ids-order}
use Rattle.shell_text.proofs.Passings.{lacking}
use Rattle.shell_text.proofs.passing.pass_ascending_ids.Goals as goal

pub loop-place-init : goal.loop-place-init
loop-place-init c = record { xs = []; reads = refl; ordered = refl; last_is = refl; made = tt }

pub returns-in-None : goal.returns-in-None
returns-in-None c =
    makes-none (only_if are_ascending (times id_front c.args.count)) c.args.reader.now c.id.new.self None refl
    (progress-none (λ (x : StateId). x) are_ascending id_front c.args.reader.now c.loop-place._place c.args.count c.loop-place.reader c.loop-place.last lacking
    c.loop-place.invariant (untaken id_front c.loop-place.reader c.id.new.self c.in-None.ensures) (omega arith))

pub returns-then-not-id_follows : goal.returns-then-not-id_follows
returns-then-not-id_follows c =
    makes-none (only_if are_ascending (times id_front c.args.count)) c.args.reader.now c.id.new.self None refl
    (progress-breaks (λ (x : StateId). x) is_before are_ascending ids-order id_front c.args.reader.now c.loop-place._place c.args.count c.loop-place.reader
    c.loop-place.last lacking
    c.in-Some.id c.id.new.self c.loop-place.invariant (taken id_front c.loop-place.reader c.id.new.self c.in-Some.id c.in-Some.ensures)
    (sym c.if-not-id_follows.ensures) (omega arith))

pub loop-place-preserved : goal.loop-place-preserved
loop-place-preserved c =
    progress-more (λ (x : StateId). x) is_before are_ascending ids-order id_front c.args.reader.now c.loop-place._place c.loop-place.reader
    c.loop-place.last lacking lacking
    c.in-Some.id c.id.new.self c.loop-place.invariant (taken id_front c.loop-place.reader c.id.new.self c.in-Some.id c.in-Some.ensures)
    (sym c.if-not-id_follows.ensures) (λ _. tt)

pub returns : goal.returns
returns c =
    progress-whole (λ (x : StateId). x) are_ascending id_front c.args.reader.now c.loop-place._place c.args.count c.loop-place.reader c.loop-place.last
    lacking c.loop-place.invariant (omega arith)
