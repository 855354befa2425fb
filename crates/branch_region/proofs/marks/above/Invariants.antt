use Rattle.std.proofs.Common.{◌≡◌, List, length, take}
use Rattle.tardis_base.specs.declared.ids.StateId.{StateId}
use Rattle.tardis_base.specs.declared.records.Record.{Record}
use Rattle.plain_dag.specs.Collection.{kept_states}
use Rattle.state_dag.specs.Stands.{Stands}
use Rattle.branch_region.proofs.Marked.{MarkedBut}
use Rattle.branch_region.proofs.marks.above.Given as goal

abbrev pub invariant-loop-place : goal.invariant-loop-place
invariant-loop-place l = record {
  count : length l.marks.items ≡ l.count;
  marked : (rs : List Record) (ks : List StateId) → Stands l.dag rs ks → MarkedBut l.dag l.state (take l.place (kept_states rs ks)) l.marks.items;
}
