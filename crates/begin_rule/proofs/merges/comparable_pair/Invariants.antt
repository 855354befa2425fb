use Rattle.std.proofs.Common.{◌≡◌, Some, List, map, drop, IsTrue}
use Rattle.std.specs.List.{list_all}
use Rattle.tardis_base.specs.declared.ids.StateId.{StateId}
use Rattle.tardis_base.specs.declared.records.Record.{Record}
use Rattle.plain_dag.specs.Above.{comparable_pair}
use Rattle.state_dag.specs.Table.{id_at, is_slot}
use Rattle.state_dag.specs.Stands.{Stands}
use Rattle.begin_rule.proofs.merges.comparable_pair.Given as goal

abbrev pub invariant-loop-place : goal.invariant-loop-place
invariant-loop-place l = record {
  slots : IsTrue (list_all (is_slot l.dag) (drop l.place l.slots));
  pair : (rs : List Record) (ks : List StateId) → Stands l.dag rs ks → (xs : List StateId) → map (id_at l.dag) l.slots ≡ map (λ x. Some x) xs →
      comparable_pair rs xs ≡ comparable_pair rs (drop l.place xs);
}
