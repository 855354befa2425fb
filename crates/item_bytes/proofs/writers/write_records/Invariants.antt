use Rattle.std.proofs.Common.{◌≡◌, ◌++◌, take}
use Rattle.std.specs.Prelude.{flat_map}
use Rattle.wire_item.specs.Spellings.{record_spelling}
use Rattle.item_bytes.proofs.writers.write_records.Given as goal

abbrev pub invariant-loop-rec : goal.invariant-loop-rec
invariant-loop-rec l = l.out ≡ l.initial.out ++ flat_map record_spelling (take l.rec-index l.records)
