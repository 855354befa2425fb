use Rattle.std.proofs.Common.{◌≡◌, Some, None, List, take, drop, IsTrue}
use Rattle.std.specs.List.{list_all}
use Rattle.tardis_base.specs.declared.ids.StateId.{StateId}
use Rattle.tardis_base.specs.declared.records.Record.{Record}
use Rattle.tardis_base.specs.Ids.{is_among}
use Rattle.plain_dag.specs.Above.{is_proper_ancestor}
use Rattle.state_dag.specs.Table.{id_at}
use Rattle.state_dag.specs.Stands.{Stands}
use Rattle.plain_dag.specs.Begin.{first_unknown, first_below}
use Rattle.state_dag.specs.Table.{is_listed}
use Rattle.begin_rule.proofs.merges.admit_all.Given as goal

abbrev pub invariant-loop-state : goal.invariant-loop-state
invariant-loop-state l = record {
  kept : IsTrue (list_all (is_listed l.dag) (take l.state-index l.states));
  admitted : (rs : List Record) (ks : List StateId) → Stands l.dag rs ks → (c : StateId) → id_at l.dag l.ceiling ≡ Some c →
      ((x : StateId) → IsTrue (is_among x ks) → IsTrue (is_proper_ancestor rs x c)) → first_unknown rs l.states ≡ None →
      first_below rs c l.states ≡ first_below rs c (drop l.state-index l.states);
}
