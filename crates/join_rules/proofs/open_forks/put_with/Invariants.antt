use Rattle.std.proofs.Common.{◌≡◌, List, Some, IsTrue, map}
use Rattle.tardis_base.specs.declared.ids.StateId.{StateId}
use Rattle.tardis_base.specs.Ids.{is_among}
use Rattle.state_dag.specs.Table.{id_at}
use Rattle.record_store.specs.Stands.{StoreStands}
use Rattle.plain_site.specs.Site.{Site}
use Rattle.plain_site.specs.Sound.{IsSound}
use Rattle.join_rules.specs.Searches.{DifferentLeaves}
use Rattle.join_rules.proofs.ReasonLaws.{FoundWith}
use Rattle.join_rules.proofs.open_forks.put_with.Given as goal

abbrev pub invariant-loop-place : goal.invariant-loop-place
invariant-loop-place l =
    (site : Site) → StoreStands l.store site.dag site.collected → IsSound site → (x : StateId) (ys : List StateId) → id_at l.store.table l.leaf ≡ Some x →
    map (id_at l.store.table) l.others ≡ map (λ y. Some y) ys → ((y : StateId) → IsTrue (is_among y ys) → DifferentLeaves site.dag x y) →
    FoundWith l.rules site.dag x ys l.place l.fn.found.items l.found.items
