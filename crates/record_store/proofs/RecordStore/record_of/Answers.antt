use Rattle.std.proofs.Common.{◌≡◌, Some, sym, subst, ◌∙◌}
use Rattle.std.proofs.lemmas.Option.{same_Some}
use Rattle.state_dag.specs.Table.{id_at}
use Rattle.state_dag.proofs.Standing.{slot-is_kept}
use Rattle.record_store.specs.Store.{Store}
use Rattle.record_store.proofs.Holding.{seen-stands}
use Rattle.record_store.proofs.Records.{record-is}
use Rattle.record_store.proofs.RecordStore.record_of.Goals as goal

pub returns : goal.returns
returns c = λ rs ks stands x named alone.
    let held = seen-stands c.self.inside c.args.self.now c.self.view_is rs ks stands in
    let at = subst (λ (s : Store). id_at s.table c.args.slot ≡ Some x) (sym c.self.view_is) named in
    record-is rs ks stands.table.dag x (slot-is_kept c.self.inside.dag rs ks held.table c.args.slot x at) c.id_of-id.result c.from_vec.result
    c.in_ok-writes.writes
    (same_Some c.id_of-id.result x (sym c.id_of-id.ensures.is ∙ at))
    (c.from_vec.ensures ∙ (c.in_ok-parents.ensures.items ∙ c.parents.ensures rs ks held.table x at))
    (λ r is. c.in_ok-writes.ensures rs ks stands x named alone r is)
