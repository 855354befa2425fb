use Rattle.std.proofs.Common.{◌≡◌, ◌++◌, take}
use Rattle.std.specs.Prelude.{flat_map}
use Rattle.wire_item.specs.Spellings.{key_write_spelling}
use Rattle.item_bytes.proofs.writers.write_key_writes.Given as goal

abbrev pub invariant-loop-pair : goal.invariant-loop-pair
invariant-loop-pair l = l.out ≡ l.initial.out ++ flat_map key_write_spelling (take l.pair-index l.writes)
