use Rattle.std.proofs.Common.{◌≡◌, ℕ, List, ◌++◌, ◌+◌, ◌≤◌, ◌||◌, vec_len, IsTrue}
use Rattle.std.specs.Vec.{vec_capacity}
use Rattle.tardis_base.specs.Keys.{are_ascending_keys, is_key_among, has_key, keys_of, write_of}
use Rattle.version_list.specs.Lists.{keys_in, versions_in, have_room_in, version_by}
use Rattle.version_list.proofs.histories.KeyLists.add.Given as goal

abbrev pub invariant-loop-key : goal.invariant-loop-key
invariant-loop-key g l = record {
  added : (k : List ℕ) → versions_in l.self k ++ version_by l.slot l.writer (write_of k l.rest.items) ≡ versions_in l.fn.self k
      ++ version_by l.slot l.writer (write_of k l.fn.writes);
  room : IsTrue (have_room_in l.self l.rest.items);
  ascending : IsTrue (are_ascending_keys (keys_of l.rest.items));
  keys : keys_in l.self ≡ keys_in l.fn.self;
  space : vec_len l.keys + vec_len l.rest ≤ vec_capacity l.keys;
  written : (k : List ℕ) → (is_key_among k l.keys.items || has_key k l.rest.items) ≡ (is_key_among k l.fn.keys.items || has_key k l.fn.writes);
}

abbrev pub decreases-loop-key : goal.decreases-loop-key
decreases-loop-key g l = goal.left-loop-key g l
