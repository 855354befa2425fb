use Rattle.std.proofs.Common.{◌≡◌, List, drop}
use Rattle.std.specs.List.{list_all}
use Rattle.tardis_base.specs.declared.ids.StateId.{StateId}
use Rattle.tardis_base.specs.declared.records.Record.{Record}
use Rattle.plain_dag.specs.States.{is_known}
use Rattle.state_dag.specs.Stands.{Stands}
use Rattle.site_exchange.proofs.judging.knows_all.Given as goal

abbrev pub invariant-loop-state : goal.invariant-loop-state
invariant-loop-state l = (rs : List Record) (ks : List StateId) → Stands l.dag rs ks → list_all (is_known rs) l.states
    ≡ list_all (is_known rs) (drop l.state-index l.states)
