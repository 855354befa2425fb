use Rattle.std.proofs.Common.{◌≡◌, List, Some, IsTrue, map, filter, take}
use Rattle.std.specs.List.{list_all}
use Rattle.tardis_base.specs.declared.ids.StateId.{StateId}
use Rattle.tardis_base.specs.declared.records.Record.{Record}
use Rattle.plain_dag.specs.Forks.{is_fork_point}
use Rattle.state_dag.specs.Table.{id_at, is_slot}
use Rattle.state_dag.specs.Stands.{Stands}
use Rattle.branch_region.specs.Regions.{shared_states}
use Rattle.fork_points.proofs.fork_points.Given as goal

abbrev pub invariant-loop-slot : goal.invariant-loop-slot
invariant-loop-slot l = record {
  slots : IsTrue (list_all (is_slot l.dag) l.forks.items);
  forks : (rs : List Record) (ks : List StateId) → Stands l.dag rs ks → (xs : List StateId) → map (id_at l.dag) l.states ≡ map (λ x. Some x) xs →
      map (id_at l.dag) l.forks.items ≡ map (λ x. Some x) (filter (is_fork_point rs xs) (take l.slot-index (shared_states rs ks xs)));
}
