use Rattle.std.proofs.Common.{◌≡◌, List, Some, IsTrue, map, filter, take}
use Rattle.std.specs.List.{list_all}
use Rattle.tardis_base.specs.declared.ids.StateId.{StateId}
use Rattle.tardis_base.specs.declared.records.Record.{Record}
use Rattle.plain_dag.specs.Collection.{kept_states}
use Rattle.state_dag.specs.Table.{id_at, is_slot}
use Rattle.state_dag.specs.Stands.{Stands}
use Rattle.branch_region.specs.Regions.{is_above_part, is_last_shared}
use Rattle.branch_region.specs.Walks.{is_until}
use Rattle.branch_region.proofs.older.older.Given as goal

abbrev pub invariant-loop-slot : goal.invariant-loop-slot
invariant-loop-slot l = record {
  apart_slots : IsTrue (list_all (is_slot l.dag) l.apart.items);
  shared_slots : IsTrue (list_all (is_slot l.dag) l.shared.items);
  both : (rs : List Record) (ks : List StateId) → Stands l.dag rs ks → (xs : List StateId) → map (id_at l.dag) l.states ≡ map (λ x. Some x) xs →
      (map (id_at l.dag) l.apart.items ≡ map (λ x. Some x) (filter (is_until rs l.bound (λ x. is_above_part rs x xs)) (take l.slot-index (kept_states rs ks))))
      × (map (id_at l.dag) l.shared.items ≡ map (λ x. Some x) (filter (is_until rs l.bound (is_last_shared rs xs)) (take l.slot-index (kept_states rs ks))));
}
