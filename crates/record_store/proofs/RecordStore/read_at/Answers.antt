use Rattle.std.proofs.Common.{◌≡◌, Some, sym, subst, ◌∙◌}
use Rattle.state_dag.specs.Table.{id_at}
use Rattle.record_store.specs.Store.{Store}
use Rattle.record_store.specs.Held.{seen}
use Rattle.record_store.specs.Stands.{StoreStands}
use Rattle.record_store.proofs.Holding.{slot-is_kept_at}
use Rattle.record_store.proofs.Reading.{found-is_read}
use Rattle.record_store.proofs.RecordStore.read_at.Goals as goal

pub latest-requires-clause-kept : goal.latest-requires-clause-kept
latest-requires-clause-kept c = slot-is_kept_at c.self.inside c.args.self.now c.args.slot c.self.view_is c.self.invariant c.requires

pub returns : goal.returns
returns c = λ rs ks stands x named.
    c.latest.ensures
    ∙ found-is_read (seen c.self.inside) rs ks (subst (λ (s : Store). StoreStands s rs ks) (sym c.self.view_is) stands) c.args.slot x
    (subst (λ (s : Store). id_at s.table c.args.slot ≡ Some x) (sym c.self.view_is) named) c.args.key.now
