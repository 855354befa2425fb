use Rattle.std.proofs.Common.{◌≡◌, ◌++◌, take}
use Rattle.std.specs.Prelude.{flat_map}
use Rattle.wire_item.specs.Spellings.{key_spelling}
use Rattle.talk_bytes.proofs.reply_writers.write_each_key.Given as goal

abbrev pub invariant-loop-key : goal.invariant-loop-key
invariant-loop-key l = l.out ≡ l.fn.out ++ flat_map key_spelling (take l.key-index l.key-items)
