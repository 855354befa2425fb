use Rattle.std.proofs.Common.{◌≡◌, None, find, take}
use Rattle.std.specs.List.{flat_map}
use Rattle.state_dag.specs.Nodes.{table_of, gains_at, is_long}
use Rattle.state_dag.proofs.leads.gains.Given as goal

abbrev pub invariant-loop-place : goal.invariant-loop-place
invariant-loop-place l = record {
  gains : l.gains.items ≡ flat_map (gains_at (table_of l.nodes) l.parents) (take l.place l.slots);
  short : find (is_long (table_of l.nodes) l.limits.max_path l.parents) (take l.place l.slots) ≡ None;
}
