use Rattle.std.proofs.Common.{List}
use Rattle.std.specs.Option.{option_copied}
use Rattle.tardis_base.specs.Keys.{KeyWrite, are_ascending_keys, keys_of}
use Rattle.wire_item.specs.Fronts.{both}
use Rattle.wire_item.specs.Readings.{key_front, write_front}
use Rattle.wire_item.proofs.Progress.{Progress}
use Rattle.item_bytes.proofs.readers.Reader.ascending_writes.Given as goal

abbrev pub invariant-loop-place : goal.invariant-loop-place
invariant-loop-place l = Progress (λ (w : KeyWrite). w.0) (λ (ws : List KeyWrite). are_ascending_keys (keys_of ws)) (both key_front write_front)
    l.initial.self l._place l.self (option_copied l.last) l.writes
