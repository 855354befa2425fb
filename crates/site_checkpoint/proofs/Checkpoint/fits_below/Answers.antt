use Rattle.std.proofs.Common.{◌≡◌, List, Some, IsTrue, length, map, take, sym, subst}
use Rattle.std.specs.List.{list_all}
use Rattle.tardis_base.specs.declared.ids.StateId.{StateId}
use Rattle.state_dag.specs.Table.{Table, id_at, is_slot}
use Rattle.record_store.proofs.Records.{named-are_slots}
use Rattle.site_checkpoint.proofs.Checkpoint.fits_below.Goals as goal

pub may_be_parents-requires : goal.may_be_parents-requires
may_be_parents-requires c =
    let table = c.self.inside.store.table in
    let ps = c.args.rec.now.parents in
    let named = subst (λ (xs : List StateId). map (id_at table) (take (length xs) c.slots_of-slots.result) ≡ map (λ x. Some x) xs) c.as_slice.ensures
    c.slots_of-slots.ensures in
    subst (λ (d : Table). IsTrue (list_all (is_slot d) (take c.len.result c.slots_of-slots.result))) (sym c.dag.ensures)
    (subst (λ n. IsTrue (list_all (is_slot table) (take n c.slots_of-slots.result))) (sym c.len.ensures)
    (named-are_slots table (take (length ps) c.slots_of-slots.result) ps named))

pub open_conflict-requires : goal.open_conflict-requires
open_conflict-requires c =
    let table = c.self.inside.store.table in
    let ps = c.args.rec.now.parents in
    let named = subst (λ (xs : List StateId). map (id_at table) (take (length xs) c.slots_of-slots.result) ≡ map (λ x. Some x) xs) c.as_slice.ensures
    c.slots_of-slots.ensures in
    subst (λ n. IsTrue (list_all (is_slot table) (take n c.slots_of-slots.result))) (sym c.len.ensures)
    (named-are_slots table (take (length ps) c.slots_of-slots.result) ps named)
