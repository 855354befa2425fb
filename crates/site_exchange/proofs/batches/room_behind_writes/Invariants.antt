use Rattle.std.proofs.Common.{◌≡◌, ◌+◌, take}
use Rattle.std.specs.Prelude.{sum_by}
use Rattle.wire_item.specs.Lengths.{key_write_length}
use Rattle.site_exchange.proofs.batches.room_behind_writes.Given as goal

abbrev pub invariant-loop-write : goal.invariant-loop-write
invariant-loop-write l = l.left + sum_by key_write_length (take l.write-index l.writes) ≡ l.room
