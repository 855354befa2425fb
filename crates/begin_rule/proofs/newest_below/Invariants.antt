use Rattle.std.proofs.Common.{◌≡◌, List, Some, IsTrue, IsFalse, drop}
use Rattle.tardis_base.specs.declared.ids.StateId.{StateId}
use Rattle.tardis_base.specs.declared.records.Record.{Record}
use Rattle.tardis_base.specs.Ids.{is_among}
use Rattle.plain_dag.specs.States.{is_known}
use Rattle.plain_dag.specs.Above.{is_above}
use Rattle.plain_dag.specs.Forks.{leaves}
use Rattle.plain_dag.specs.Collection.{stand_in}
use Rattle.state_dag.specs.Table.{id_at}
use Rattle.state_dag.specs.Stands.{Stands}
use Rattle.begin_rule.proofs.newest_below.Given as goal

abbrev pub invariant-loop-place : goal.invariant-loop-place
invariant-loop-place l = (rs : List Record) (ks : List StateId) → Stands l.dag rs ks → (last : StateId) → IsTrue (is_known rs last) → id_at l.dag l.slot
    ≡ Some (stand_in rs ks last) →
    (z : StateId) → IsTrue (is_among z (drop l.place (leaves rs))) → IsFalse (is_above rs last z)
