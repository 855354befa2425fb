use Rattle.std.proofs.Common.{◌≡◌, Some, sym, subst, ◌∙◌}
use Rattle.state_dag.specs.Table.{id_at}
use Rattle.record_store.specs.Store.{Store}
use Rattle.record_store.specs.Held.{seen}
use Rattle.record_store.proofs.Holding.{seen-stands}
use Rattle.record_store.proofs.LatestHolders.{version-is_held}
use Rattle.record_store.proofs.RecordStore.keys_at.Goals as goal

pub returns : goal.returns
returns c = λ rs ks stands x named k.
    c.keys_at.ensures k
    ∙ version-is_held (seen c.self.inside) rs ks (seen-stands c.self.inside c.args.self.now c.self.view_is rs ks stands) c.self.invariant.in_order c.args.slot x
    (subst (λ (s : Store). id_at s.table c.args.slot ≡ Some x) (sym c.self.view_is) named) k
