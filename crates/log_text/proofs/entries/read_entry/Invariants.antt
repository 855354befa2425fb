use Rattle.std.proofs.Common.{◌≡◌, ◌-◌, ◌≤◌, ◌++◌, length, drop}
use Rattle.tardis_base.specs.Sizes.{longest_frame}
use Rattle.log_text.specs.Texts.{coded, IsItem}
use Rattle.log_text.proofs.entries.read_entry.Given as goal

abbrev pub invariant-loop-byte : goal.invariant-loop-byte
invariant-loop-byte l = record {
  within : l.at ≤ length l.bytes;
  read : l.bytes ≡ coded l.out.items ++ drop l.at l.bytes;
  fits : IsItem l.out.items;
  room : longest_frame ≤ l.fn.out.cap → longest_frame ≤ l.out.cap;
}

abbrev pub decreases-loop-byte : goal.decreases-loop-byte
decreases-loop-byte l = length l.bytes - l.at
