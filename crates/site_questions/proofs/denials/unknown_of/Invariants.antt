use Rattle.std.proofs.Common.{◌≡◌, not, take, find, List, None}
use Rattle.tardis_base.specs.declared.ids.StateId.{StateId}
use Rattle.tardis_base.specs.declared.records.Record.{Record}
use Rattle.plain_dag.specs.States.{is_known}
use Rattle.state_dag.specs.Stands.{Stands}
use Rattle.site_questions.proofs.denials.unknown_of.Given as goal

abbrev pub invariant-loop-state : goal.invariant-loop-state
invariant-loop-state l =
    (rs : List Record) (ks : List StateId) → Stands l.dag rs ks → find (λ x. not (is_known rs x)) (take l.state-index l.states) ≡ None
