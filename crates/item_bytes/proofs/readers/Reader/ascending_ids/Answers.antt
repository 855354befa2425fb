use Rattle.std.proofs.Common.{refl, sym, arith}
use Rattle.tardis_base.specs.declared.ids.StateId.{StateId}
use Rattle.tardis_base.specs.Ids.{is_before, are_ascending}
use Rattle.wire_item.specs.Fronts.{only_if, times}
use Rattle.wire_item.specs.Readings.{id_front}
use Rattle.wire_item.proofs.Takings.{taken, untaken, makes-none}
use Rattle.wire_item.proofs.Progress.{progress-start, progress-none, progress-breaks, progress-more, progress-whole}
use Rattle.wire_item.proofs.Orders.{ids-order}
use Rattle.item_bytes.proofs.readers.Reader.ascending_ids.Goals as goal

pub loop-place-init : goal.loop-place-init
loop-place-init c = progress-start (λ (x : StateId). x) is_before are_ascending ids-order id_front c.args.self.now c.new.result c.new.ensures

pub returns-in_err-id : goal.returns-in_err-id
returns-in_err-id c =
    makes-none (only_if are_ascending (times id_front c.args.count)) c.args.self.now c.id.new.self c.from_residual.result c.from_residual.ensures
    (progress-none (λ (x : StateId). x) are_ascending id_front c.args.self.now c.loop-place._place c.args.count c.loop-place.self c.loop-place.last
    c.loop-place.ids
    c.loop-place.invariant (untaken id_front c.loop-place.self c.id.new.self c.in_err-id.ensures) (omega arith))

pub returns-then-not-follows : goal.returns-then-not-follows
returns-then-not-follows c =
    makes-none (only_if are_ascending (times id_front c.args.count)) c.args.self.now c.id.new.self _ refl
    (progress-breaks (λ (x : StateId). x) is_before are_ascending ids-order id_front c.args.self.now c.loop-place._place c.args.count c.loop-place.self
    c.loop-place.last c.loop-place.ids
    c.in_ok-id.id c.id.new.self c.loop-place.invariant (taken id_front c.loop-place.self c.id.new.self c.in_ok-id.id c.in_ok-id.ensures)
    (sym c.if-not-follows.ensures) (omega arith))

pub loop-place-preserved : goal.loop-place-preserved
loop-place-preserved c =
    progress-more (λ (x : StateId). x) is_before are_ascending ids-order id_front c.args.self.now c.loop-place._place c.loop-place.self c.loop-place.last
    c.loop-place.ids c.pushed-ids.result
    c.in_ok-id.id c.id.new.self c.loop-place.invariant (taken id_front c.loop-place.self c.id.new.self c.in_ok-id.id c.in_ok-id.ensures)
    (sym c.if-not-follows.ensures)
    (λ _. c.pushed-ids.ensures c.loop-place.invariant.xs c.in_ok-id.id c.loop-place.invariant.made refl)

pub returns : goal.returns
returns c =
    progress-whole (λ (x : StateId). x) are_ascending id_front c.args.self.now c.loop-place._place c.args.count c.loop-place.self c.loop-place.last
    c.loop-place.ids c.loop-place.invariant (omega arith)
