use Rattle.std.proofs.Common.{◌≡◌, List, length, map, take, Some, IsTrue, sym, subst}
use Rattle.std.specs.List.{list_all}
use Rattle.tardis_base.specs.declared.ids.StateId.{StateId}
use Rattle.state_dag.specs.Table.{id_at, is_slot}
use Rattle.record_store.proofs.Records.{named-are_slots}
use Rattle.record_store.proofs.RecordStore.add_record.Goals as goal

pub add_state-requires-clause-slots : goal.add_state-requires-clause-slots
add_state-requires-clause-slots c =
    let table = c.args.self.now.table in
    let slots = c.slots_of-slots.result in
    let parents = c.args.rec.now.parents in
    subst (λ n. IsTrue (list_all (is_slot table) (take n slots))) (sym c.len.ensures)
    (named-are_slots table (take (length parents) slots) parents
    (subst (λ (xs : List StateId). map (id_at table) (take (length xs) slots) ≡ map (λ x. Some x) xs) c.as_slice.ensures c.slots_of-slots.ensures))
