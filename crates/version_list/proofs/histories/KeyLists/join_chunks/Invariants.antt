use Rattle.std.proofs.Common.{◌≡◌, ◌≤◌, ◌+◌, ◌&&◌, ◌||◌, ℕ, List, length, IsTrue}
use Rattle.version_list.specs.Lists.{keys_in, versions_in, AllInOrder}
use Rattle.version_list.specs.Notes.{is_key_in, are_full}
use Rattle.version_list.specs.Promoted.{moves}
use Rattle.version_list.specs.Joined.{joined_if}
use Rattle.version_list.proofs.histories.KeyLists.join_chunks.Given as goal

abbrev pub invariant-loop : goal.invariant-loop
invariant-loop g l = record {
  joined : (k : List ℕ) → joined_if (is_key_in k l.rest) (g.A.Above.arrival_of l.dag) l.from l.to (versions_in l.self k)
      ≡ joined_if (is_key_in k l.fn.chunks) (g.A.Above.arrival_of l.dag) l.from l.to (versions_in l.fn.self k);
  kept : (k : List ℕ) → (is_key_in k l.moved || (is_key_in k l.rest && moves l.from l.to (versions_in l.self k)))
      ≡ (is_key_in k l.fn.chunks && moves l.from l.to (versions_in l.fn.self k));
  left : l.counter + length l.rest ≡ length l.fn.chunks;
  full : IsTrue (are_full l.moved);
  count : length l.moved + length l.rest ≤ length l.fn.chunks;
  keys : keys_in l.self ≡ keys_in l.fn.self;
  order : AllInOrder (g.A.Above.is_kept l.dag) (g.A.Above.arrival_of l.dag) l.self;
}
