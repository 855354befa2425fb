use Rattle.std.proofs.Common.{◌≡◌, drop, map, Some, IsTrue}
use Rattle.std.specs.List.{list_all}
use Rattle.state_dag.specs.Table.{id_at, is_slot}
use Rattle.record_store.specs.Stands.{StoreStands}
use Rattle.plain_dag.specs.Forks.{leaves}
use Rattle.plain_site.specs.Site.{Site}
use Rattle.plain_site.specs.Sound.{IsSound}
use Rattle.join_rules.specs.Joints.{last_ones}
use Rattle.join_rules.proofs.ReasonLaws.{FoundOf}
use Rattle.join_rules.proofs.open_forks.unjoined_leaves.Given as goal

abbrev pub invariant-loop-place : goal.invariant-loop-place
invariant-loop-place l = record {
  slots : IsTrue (list_all (is_slot l.store.table) (drop l.place l.leaves));
  named : (site : Site) → StoreStands l.store site.dag site.collected → IsSound site →
      map (id_at l.store.table) l.leaves ≡ map (λ y. Some y) (last_ones (leaves site.dag));
  found : (site : Site) → StoreStands l.store site.dag site.collected → IsSound site → FoundOf l.rules site.dag (last_ones (leaves site.dag)) l.place l.found.items;
}
