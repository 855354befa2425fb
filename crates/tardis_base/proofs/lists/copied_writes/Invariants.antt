use Rattle.std.proofs.Common.{◌≡◌, take}
use Rattle.tardis_base.proofs.lists.copied_writes.Given as goal

abbrev pub invariant-loop-key : goal.invariant-loop-key
invariant-loop-key l = l.copies.items ≡ take l.key-index l.writes
