use Rattle.std.proofs.Common.{◌≡◌, take, find, List, None}
use Rattle.tardis_base.specs.declared.ids.StateId.{StateId}
use Rattle.tardis_base.specs.declared.records.Record.{Record}
use Rattle.tardis_base.specs.Ids.{is_among}
use Rattle.state_dag.specs.Stands.{Stands}
use Rattle.site_questions.proofs.denials.collected_of.Given as goal

abbrev pub invariant-loop-state : goal.invariant-loop-state
invariant-loop-state l =
    (rs : List Record) (ks : List StateId) → Stands l.dag rs ks → find (λ x. is_among x ks) (take l.state-index l.states) ≡ None
