use Rattle.std.proofs.Common.{◌≡◌, Some, map, take, IsTrue}
use Rattle.std.specs.List.{list_all}
use Rattle.tardis_base.specs.declared.ids.StateId.{StateId}
use Rattle.state_dag.specs.Table.{id_at, is_slot}
use Rattle.begin_rule.proofs.merges.slots_of.Given as goal

abbrev pub invariant-loop-state : goal.invariant-loop-state
invariant-loop-state l = record {
  slots : IsTrue (list_all (is_slot l.dag) l.slots);
  named : map (id_at l.dag) l.slots ≡ map (λ (x : StateId). Some x) (take l.state-index l.states);
}
