use Rattle.std.proofs.Common.{List, ℕ, None, refl, sym, arith}
use Rattle.std.specs.Option.{option_copied}
use Rattle.tardis_base.specs.Keys.{is_key_before, are_ascending_keys}
use Rattle.wire_item.specs.Fronts.{only_if, times}
use Rattle.wire_item.specs.Readings.{key_front}
use Rattle.wire_item.proofs.Takings.{taken, untaken, makes-none}
use Rattle.wire_item.proofs.Progress.{progress-start, progress-none, progress-breaks, progress-more, progress-whole}
use Rattle.wire_talk.proofs.ReplyFields.{keys-order}
use Rattle.talk_bytes.proofs.list_readers.keys.Goals as goal

pub loop-place-init : goal.loop-place-init
loop-place-init c = progress-start (λ (k : List ℕ). k) is_key_before are_ascending_keys keys-order key_front c.args.reader.now c.new.result c.new.ensures

pub returns-in_err-key : goal.returns-in_err-key
returns-in_err-key c =
    makes-none (only_if are_ascending_keys (times key_front c.args.count)) c.args.reader.now c.key.new.self c.from_residual.result c.from_residual.ensures
    (progress-none (λ (k : List ℕ). k) are_ascending_keys key_front c.args.reader.now c.loop-place._place c.args.count c.loop-place.reader
    (option_copied c.loop-place.last) c.loop-place.keys
    c.loop-place.invariant (untaken key_front c.loop-place.reader c.key.new.self c.in_err-key.ensures) (omega arith))

pub returns-then-not-key_follows : goal.returns-then-not-key_follows
returns-then-not-key_follows c =
    let key = taken key_front c.loop-place.reader c.key.new.self c.in_ok-key.key.now c.in_ok-key.ensures in
    makes-none (only_if are_ascending_keys (times key_front c.args.count)) c.args.reader.now c.key.new.self None refl
    (progress-breaks (λ (k : List ℕ). k) is_key_before are_ascending_keys keys-order key_front c.args.reader.now c.loop-place._place c.args.count
    c.loop-place.reader (option_copied c.loop-place.last) c.loop-place.keys
    c.in_ok-key.key.now c.key.new.self c.loop-place.invariant key (sym c.if-not-key_follows.ensures) (omega arith))

pub loop-place-preserved : goal.loop-place-preserved
loop-place-preserved c =
    let key = taken key_front c.loop-place.reader c.key.new.self c.in_ok-key.key.now c.in_ok-key.ensures in
    progress-more (λ (k : List ℕ). k) is_key_before are_ascending_keys keys-order key_front c.args.reader.now c.loop-place._place c.loop-place.reader
    (option_copied c.loop-place.last) c.loop-place.keys c.pushed-keys.result
    c.in_ok-key.key.now c.key.new.self c.loop-place.invariant key (sym c.if-not-key_follows.ensures)
    (λ _. c.pushed-keys.ensures c.loop-place.invariant.xs c.in_ok-key.key.now c.loop-place.invariant.made c.new_key.ensures)

pub returns : goal.returns
returns c =
    progress-whole (λ (k : List ℕ). k) are_ascending_keys key_front c.args.reader.now c.loop-place._place c.args.count c.loop-place.reader
    (option_copied c.loop-place.last) c.loop-place.keys c.loop-place.invariant (omega arith)
