use Rattle.std.proofs.Common.{◌≡◌, ◌≤◌, ◌+◌, ◌*◌, ◌++◌, take}
use Rattle.std.specs.Prelude.{flat_map, vec_len, vec_capacity}
use Rattle.wire_item.specs.Spellings.{id_spelling}
use Rattle.record_spelling.proofs.puts.put_ids.Given as goal

abbrev pub invariant-loop-id : goal.invariant-loop-id
invariant-loop-id l = record {
  items : l.log.items ≡ l.fn.log.items ++ flat_map id_spelling (take l.id-index l.ids);
  len : vec_len l.log ≡ vec_len l.fn.log + 6 * l.id-index;
  capacity : vec_capacity l.fn.log ≤ vec_capacity l.log;
}
