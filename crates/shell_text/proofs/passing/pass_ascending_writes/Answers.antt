use Rattle.std.proofs.Common.{List, [], None, sym, refl, arith}
use Rattle.std.specs.Option.{option_copied}
use Rattle.tardis_base.specs.Keys.{KeyWrite, is_key_before, are_ascending_keys, keys_of}
use Rattle.wire_item.specs.Fronts.{only_if, both, times}
use Rattle.wire_item.specs.Readings.{key_front, write_front}
use Rattle.wire_item.proofs.Takings.{taken, untaken, making, unmade, makes-none, after-none, after-then_none, after-then}
use Rattle.wire_item.proofs.Progress.{progress-none, progress-breaks, progress-more, progress-whole}
use Rattle.wire_item.proofs.Orders.{writes-order}
use Rattle.shell_text.proofs.Passings.{lacking}
use Rattle.shell_text.proofs.passing.pass_ascending_writes.Goals as goal

pub loop-place-init : goal.loop-place-init
loop-place-init c = record { xs = []; reads = refl; ordered = refl; last_is = refl; made = tt }

pub returns-in-None : goal.returns-in-None
returns-in-None c =
    makes-none (only_if (λ (ws : List KeyWrite). are_ascending_keys (keys_of ws)) (times (both key_front write_front) c.args.count)) c.args.reader.now
    c.key.new.self None refl
    (progress-none (λ (w : KeyWrite). w.0) (λ (ws : List KeyWrite). are_ascending_keys (keys_of ws)) (both key_front write_front) c.args.reader.now
    c.loop-place._place c.args.count c.loop-place.reader (option_copied c.loop-place.last) lacking
    c.loop-place.invariant (after-none key_front (λ _. write_front) c.loop-place.reader
    (untaken key_front c.loop-place.reader c.key.new.self c.in-None.ensures)) (omega arith))

pub returns-then-not-pass_write : goal.returns-then-not-pass_write
returns-then-not-pass_write c =
    let key = taken key_front c.loop-place.reader c.key.new.self c.in-Some.key.now c.in-Some.ensures in
    let none = unmade write_front c.key.new.self c.pass_write.new.reader c.if-not-pass_write.ensures in
    makes-none (only_if (λ (ws : List KeyWrite). are_ascending_keys (keys_of ws)) (times (both key_front write_front) c.args.count)) c.args.reader.now
    c.pass_write.new.reader None refl
    (progress-none (λ (w : KeyWrite). w.0) (λ (ws : List KeyWrite). are_ascending_keys (keys_of ws)) (both key_front write_front) c.args.reader.now
    c.loop-place._place c.args.count c.loop-place.reader (option_copied c.loop-place.last) lacking
    c.loop-place.invariant (after-then_none key_front (λ _. write_front) c.loop-place.reader c.in-Some.key.now c.key.new.self key none) (omega arith))

pub returns-then-not-key_follows : goal.returns-then-not-key_follows
returns-then-not-key_follows c =
    let key = taken key_front c.loop-place.reader c.key.new.self c.in-Some.key.now c.in-Some.ensures in
    let write = making write_front c.key.new.self c.pass_write.new.reader lacking c.if-not-pass_write.ensures in
    let read = after-then key_front (λ _. write_front) c.loop-place.reader c.in-Some.key.now c.key.new.self write.0 c.pass_write.new.reader key write.1 in
    makes-none (only_if (λ (ws : List KeyWrite). are_ascending_keys (keys_of ws)) (times (both key_front write_front) c.args.count)) c.args.reader.now
    c.pass_write.new.reader None refl
    (progress-breaks (λ (w : KeyWrite). w.0) is_key_before (λ (ws : List KeyWrite). are_ascending_keys (keys_of ws)) writes-order
    (both key_front write_front) c.args.reader.now c.loop-place._place c.args.count c.loop-place.reader (option_copied c.loop-place.last) lacking
    (c.in-Some.key.now, write.0) c.pass_write.new.reader c.loop-place.invariant read (sym c.if-not-key_follows.ensures) (omega arith))

pub loop-place-preserved : goal.loop-place-preserved
loop-place-preserved c =
    let key = taken key_front c.loop-place.reader c.key.new.self c.in-Some.key.now c.in-Some.ensures in
    let write = making write_front c.key.new.self c.pass_write.new.reader lacking c.if-not-pass_write.ensures in
    let read = after-then key_front (λ _. write_front) c.loop-place.reader c.in-Some.key.now c.key.new.self write.0 c.pass_write.new.reader key write.1 in
    progress-more (λ (w : KeyWrite). w.0) is_key_before (λ (ws : List KeyWrite). are_ascending_keys (keys_of ws)) writes-order (both key_front write_front)
    c.args.reader.now c.loop-place._place c.loop-place.reader (option_copied c.loop-place.last) lacking lacking
    (c.in-Some.key.now, write.0) c.pass_write.new.reader c.loop-place.invariant read (sym c.if-not-key_follows.ensures) (λ _. tt)

pub returns : goal.returns
returns c =
    progress-whole (λ (w : KeyWrite). w.0) (λ (ws : List KeyWrite). are_ascending_keys (keys_of ws)) (both key_front write_front) c.args.reader.now
    c.loop-place._place c.args.count c.loop-place.reader (option_copied c.loop-place.last) lacking c.loop-place.invariant (omega arith)
