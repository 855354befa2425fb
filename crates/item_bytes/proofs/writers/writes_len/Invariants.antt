use Rattle.std.proofs.Common.{◌≡◌, ◌≤◌, ◌*◌, take, sum_by}
use Rattle.wire_item.specs.Lengths.{key_write_length}
use Rattle.item_bytes.proofs.writers.writes_len.Given as goal

abbrev pub invariant-loop-pair : goal.invariant-loop-pair
invariant-loop-pair l = record { sums : l.total ≡ sum_by key_write_length (take l.pair-index l.writes); bound : l.total ≤ 4228 * l.pair-index }
