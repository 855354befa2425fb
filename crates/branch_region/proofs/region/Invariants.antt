use Rattle.std.proofs.Common.{◌≡◌, ℕ, List, Some, map}
use Rattle.tardis_base.specs.declared.ids.StateId.{StateId}
use Rattle.tardis_base.specs.declared.records.Record.{Record}
use Rattle.state_dag.specs.Table.{id_at}
use Rattle.state_dag.specs.Stands.{Stands}
use Rattle.branch_region.specs.Walks.{HasSlots, IsWalkAt}
use Rattle.branch_region.proofs.region.Given as goal

abbrev pub invariant-loop-place : goal.invariant-loop-place
invariant-loop-place l = record {
  slots : HasSlots l.dag l.walk;
  walk : (rs : List Record) (ks : List StateId) → Stands l.dag rs ks → (xs : List StateId) → map (id_at l.dag) l.states ≡ map (λ x. Some x) xs → (b : ℕ)
      × IsWalkAt l.dag rs ks xs l._place b l.walk;
}
