use Rattle.std.proofs.Common.{◌≡◌, List, take, drop, IsTrue}
use Rattle.std.specs.List.{list_all}
use Rattle.tardis_base.specs.declared.ids.StateId.{StateId}
use Rattle.tardis_base.specs.declared.records.Record.{Record}
use Rattle.plain_dag.specs.Collection.{is_kept}
use Rattle.state_dag.specs.Stands.{Stands}
use Rattle.state_dag.specs.Table.{is_listed}
use Rattle.site_checkpoint.proofs.arrivals.are_kept.Given as goal

abbrev pub invariant-loop-state : goal.invariant-loop-state
invariant-loop-state l = record {
  listed : IsTrue (list_all (is_listed l.dag) (take l.state-index l.states));
  kept : (rs : List Record) (ks : List StateId) → Stands l.dag rs ks → list_all (is_kept rs ks) l.states
      ≡ list_all (is_kept rs ks) (drop l.state-index l.states);
}
