use Rattle.std.proofs.Common.{◌≡◌, ◌+◌, ◌*◌, ◌-◌, ◌≤◌, ◌++◌, length, take}
use Rattle.log_text.specs.Texts.{coded}
use Rattle.log_text.proofs.entries.put_entry.Given as goal

abbrev pub invariant-loop-byte : goal.invariant-loop-byte
invariant-loop-byte l = record {
  items : l.log.items ≡ l.fn.log.items ++ coded (take l.byte-index l.item);
  room : l.log.len + (2 * (length l.item - l.byte-index) + 1) ≤ l.log.cap;
  long : l.log.len ≤ l.fn.log.len + 2 * l.byte-index;
  cap : l.fn.log.cap ≤ l.log.cap;
}
