use Rattle.std.proofs.Common.{◌≡◌, ◌<◌, ℕ, false, Option, Some, List, refl, sym, arith, None, ◌++◌, ◌∷◌, []}
use Rattle.std.specs.Prelude.{Result}
use Rattle.tardis_base.specs.declared.faults.NoMemory.{NoMemory}
use Rattle.tardis_base.specs.declared.records.Write.{Write}
use Rattle.std.specs.Option.{option_copied}
use Rattle.tardis_base.specs.Keys.{KeyWrite, is_key_before, are_ascending_keys, keys_of, with_write}
use Rattle.tardis_base.proofs.WriteSets.{with_write-last}
use Rattle.wire_item.specs.Fronts.{both, only_if, times}
use Rattle.wire_item.specs.Readings.{key_front, write_front}
use Rattle.wire_item.proofs.Takings.{taken, untaken, making, unmade, makes-none, after-none, after-then_none, after-then, if_ok-same}
use Rattle.wire_item.proofs.Progress.{Progress, may_follow, progress-start, progress-none, progress-breaks, progress-more, progress-whole}
use Rattle.wire_item.proofs.Orders.{writes-order}
use Rattle.item_bytes.proofs.readers.Reader.ascending_writes.Goals as goal

pub loop-place-init : goal.loop-place-init
loop-place-init c = progress-start (λ (w : KeyWrite). w.0) is_key_before (λ (ws : List KeyWrite). are_ascending_keys (keys_of ws)) writes-order
    (both key_front write_front) c.args.self.now c.new.result c.new.ensures

pub returns-in_err-key : goal.returns-in_err-key
returns-in_err-key c =
    let none = untaken key_front c.loop-place.self c.key.new.self c.in_err-key.ensures in
    makes-none (only_if (λ (ws : List KeyWrite). are_ascending_keys (keys_of ws)) (times (both key_front write_front) c.args.count)) c.args.self.now
    c.key.new.self c.from_residual.result c.from_residual.ensures
    (progress-none (λ (w : KeyWrite). w.0) (λ (ws : List KeyWrite). are_ascending_keys (keys_of ws)) (both key_front write_front) c.args.self.now
    c.loop-place._place c.args.count c.loop-place.self (option_copied c.loop-place.last) c.loop-place.writes
    c.loop-place.invariant (after-none key_front (λ _. write_front) c.loop-place.self none) (omega arith))

pub returns-in_err-write : goal.returns-in_err-write
returns-in_err-write c =
    let key = taken key_front c.loop-place.self c.key.new.self c.in_ok-key.key.now c.in_ok-key.ensures in
    let none = unmade write_front c.key.new.self c.write.new.self c.in_err-write.ensures in
    makes-none (only_if (λ (ws : List KeyWrite). are_ascending_keys (keys_of ws)) (times (both key_front write_front) c.args.count)) c.args.self.now
    c.write.new.self c.from_residual-in_err-write.result c.from_residual-in_err-write.ensures
    (progress-none (λ (w : KeyWrite). w.0) (λ (ws : List KeyWrite). are_ascending_keys (keys_of ws)) (both key_front write_front) c.args.self.now
    c.loop-place._place c.args.count c.loop-place.self (option_copied c.loop-place.last) c.loop-place.writes
    c.loop-place.invariant (after-then_none key_front (λ _. write_front) c.loop-place.self c.in_ok-key.key.now c.key.new.self key none) (omega arith))

-- a key that doesn't stand behind the last, whatever is written to it
disordered : (start : List ℕ) (place n : ℕ) (now : List ℕ) (last : Option (List ℕ)) (list : Result (List KeyWrite) NoMemory) (key : List ℕ) (mid : List ℕ)
    → Progress (λ (w : KeyWrite). w.0) (λ (ws : List KeyWrite). are_ascending_keys (keys_of ws)) (both key_front write_front) start place now last list
    → key_front now ≡ Some (key, mid) → may_follow is_key_before last key ≡ false → place < n
    → only_if (λ (ws : List KeyWrite). are_ascending_keys (keys_of ws)) (times (both key_front write_front) n) start ≡ None
disordered start place n now last list key mid p e f h = go (write_front mid) refl
  where
    go : (o : Option (Write × List ℕ)) → write_front mid ≡ o
        → only_if (λ (ws : List KeyWrite). are_ascending_keys (keys_of ws)) (times (both key_front write_front) n) start ≡ None
    go None w =
        progress-none (λ (w : KeyWrite). w.0) (λ (ws : List KeyWrite). are_ascending_keys (keys_of ws)) (both key_front write_front) start place n now last list
        p (after-then_none key_front (λ _. write_front) now key mid e w) h
    go (Some write) w =
        progress-breaks (λ (w : KeyWrite). w.0) is_key_before (λ (ws : List KeyWrite). are_ascending_keys (keys_of ws)) writes-order
        (both key_front write_front) start place n now last list (key, write.0) write.1 p
        (after-then key_front (λ _. write_front) now key mid write.0 write.1 e w) f h

pub returns-then-not-key_follows : goal.returns-then-not-key_follows
returns-then-not-key_follows c =
    let key = taken key_front c.loop-place.self c.key.new.self c.in_ok-key.key.now c.in_ok-key.ensures in
    makes-none (only_if (λ (ws : List KeyWrite). are_ascending_keys (keys_of ws)) (times (both key_front write_front) c.args.count)) c.args.self.now
    c.key.new.self None refl
    (disordered c.args.self.now c.loop-place._place c.args.count c.loop-place.self (option_copied c.loop-place.last) c.loop-place.writes c.in_ok-key.key.now
    c.key.new.self c.loop-place.invariant key (sym c.if-not-key_follows.ensures) (omega arith))

pub loop-place-preserved : goal.loop-place-preserved
loop-place-preserved c =
    let key = taken key_front c.loop-place.self c.key.new.self c.in_ok-key.key.now c.in_ok-key.ensures in
    let write = making write_front c.key.new.self c.write.new.self c.in_ok-write.write c.in_ok-write.ensures in
    let read = after-then key_front (λ _. write_front) c.loop-place.self c.in_ok-key.key.now c.key.new.self write.0 c.write.new.self key write.1 in
    let ws : List KeyWrite = c.loop-place.invariant.xs in
    let longer = c.inserted-writes.ensures ws write.0 c.loop-place.invariant.made write.2 in
    progress-more (λ (w : KeyWrite). w.0) is_key_before (λ (ws : List KeyWrite). are_ascending_keys (keys_of ws)) writes-order (both key_front write_front)
    c.args.self.now c.loop-place._place c.loop-place.self (option_copied c.loop-place.last) c.loop-place.writes c.inserted-writes.result
    (c.in_ok-key.key.now, write.0) c.write.new.self c.loop-place.invariant read (sym c.if-not-key_follows.ensures)
    (λ ordered. if_ok-same c.inserted-writes.result (with_write c.in_ok-key.key.now write.0 ws) (ws ++ (c.in_ok-key.key.now, write.0) ∷ []) longer
    (with_write-last ws c.in_ok-key.key.now write.0 ordered))

pub returns : goal.returns
returns c =
    progress-whole (λ (w : KeyWrite). w.0) (λ (ws : List KeyWrite). are_ascending_keys (keys_of ws)) (both key_front write_front) c.args.self.now
    c.loop-place._place c.args.count c.loop-place.self (option_copied c.loop-place.last) c.loop-place.writes c.loop-place.invariant (omega arith)
