use Rattle.std.proofs.Common.{◌≡◌, ◌≤◌, ◌&&◌, ◌||◌, ℕ, List, ◌-◌, length, take, drop}
use Rattle.tardis_base.specs.Keys.{is_key_among}
use Rattle.version_list.specs.Lists.{keys_in, versions_in, AllInOrder}
use Rattle.version_list.specs.Promoted.{moves}
use Rattle.version_list.specs.Joined.{joined_if}
use Rattle.version_list.proofs.histories.KeyLists.join_keys.Given as goal

abbrev pub invariant-loop-place : goal.invariant-loop-place
invariant-loop-place g l = record {
  joined : (k : List ℕ) → joined_if (is_key_among k (drop l.place l.keys.items)) (g.A.Above.arrival_of l.dag) l.from l.to (versions_in l.self k)
      ≡ joined_if (is_key_among k l.fn.keys.items) (g.A.Above.arrival_of l.dag) l.from l.to (versions_in l.fn.self k);
  kept : (k : List ℕ) → (is_key_among k (take l.place l.keys.items) || (is_key_among k (drop l.place l.keys.items) && moves l.from l.to (versions_in l.self k)))
      ≡ (is_key_among k l.fn.keys.items && moves l.from l.to (versions_in l.fn.self k));
  within : l.place ≤ length l.keys.items;
  keys : keys_in l.self ≡ keys_in l.fn.self;
  order : AllInOrder (g.A.Above.is_kept l.dag) (g.A.Above.arrival_of l.dag) l.self;
}

abbrev pub decreases-loop-place : goal.decreases-loop-place
decreases-loop-place g l = length l.keys.items - l.place
