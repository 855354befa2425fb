use Rattle.std.proofs.Common.{◌≡◌, ◌++◌, ℕ, List, IsTrue, take}
use Rattle.version_list.specs.Lists.{keys_in, versions_in, has_room_in, have_room_in, new_keys}
use Rattle.version_list.proofs.histories.KeyLists.make_room.Given as goal

abbrev pub invariant-loop-key : goal.invariant-loop-key
invariant-loop-key l = record {
  room : IsTrue (have_room_in l.self (take l.key-index l.key-items));
  listed : keys_in l.self ≡ keys_in l.fn.self ++ new_keys (keys_in l.fn.self) (take l.key-index l.key-items);
  same : (k : List ℕ) → versions_in l.self k ≡ versions_in l.fn.self k;
  kept : (k : List ℕ) → IsTrue (has_room_in l.fn.self k) → IsTrue (has_room_in l.self k);
}
