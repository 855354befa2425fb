use Rattle.std.proofs.Common.{◌≡◌, List, drop}
use Rattle.tardis_base.specs.declared.ids.StateId.{StateId}
use Rattle.tardis_base.specs.declared.records.Record.{Record}
use Rattle.state_dag.specs.Stands.{Stands}
use Rattle.plain_dag.specs.Begin.{first_unknown}
use Rattle.begin_rule.proofs.merges.first_unknown.Given as goal

abbrev pub invariant-loop-state : goal.invariant-loop-state
invariant-loop-state l = (rs : List Record) (ks : List StateId) → Stands l.dag rs ks → first_unknown rs l.states
    ≡ first_unknown rs (drop l.state-index l.states)
