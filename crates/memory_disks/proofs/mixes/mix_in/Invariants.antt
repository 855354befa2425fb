use Rattle.std.proofs.Common.{◌≡◌, length}
use Rattle.disk_store.specs.Disks.{Bytewise}
use Rattle.memory_disks.proofs.mixes.mix_in.Given as goal

abbrev pub invariant-loop-number : goal.invariant-loop-number
invariant-loop-number l = record {
  mixed : Bytewise l.place l.bytes l.fn.image.items l.image.items;
  same : length l.image.items ≡ length l.fn.image.items;
}
