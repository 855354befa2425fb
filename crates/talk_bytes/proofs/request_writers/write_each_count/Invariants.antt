use Rattle.std.proofs.Common.{◌≡◌, ◌++◌, take}
use Rattle.std.specs.Prelude.{flat_map}
use Rattle.wire_item.specs.Spellings.{u32_spelling}
use Rattle.talk_bytes.proofs.request_writers.write_each_count.Given as goal

abbrev pub invariant-loop-count : goal.invariant-loop-count
invariant-loop-count l = l.out ≡ l.fn.out ++ flat_map u32_spelling (take l.count-index l.count-items)
