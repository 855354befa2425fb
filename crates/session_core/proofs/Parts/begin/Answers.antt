use Rattle.tardis_base.specs.declared.replies.Reply.TheVariants.{Begun}
use Rattle.plain_dag.specs.Begin.{begin_state}
use Rattle.plain_site.specs.Answers.{without_txn}
use Rattle.plain_site.specs.Sessions.{begin, begun}
use Rattle.session_core.specs.Stands.{CoreStands}
use Rattle.site_answers.specs.Stops.{begin_stop}
use Rattle.session_core.proofs.Answers.{does-stop, as-done}
use Rattle.session_core.proofs.Standing.{open-session}
use Rattle.session_core.proofs.Beginning.{begin-chosen, begin-stops}
use Rattle.session_core.proofs.Parts.begin.Goals as goal

pub returns-in_err-slot : goal.returns-in_err-slot
returns-in_err-slot c = λ site stands sound.
    let core = c.args.self.now in
    let s = open-session core site stands c.args.actor c.in_ok-no_txn.ensures.open in
    does-stop Begun (CoreStands core) (without_txn site c.args.actor (λ s. begin site c.args.actor s c.args.begin.now)) site
    (begin_stop c.in_err-slot.field-0.0) c.from_residual-in_err-slot.result c.from_residual-in_err-slot.ensures.1
    (begin-stops core site stands c.args.actor c.args.begin.now c.in_ok-no_txn.ensures.none s.value s.is c.in_err-slot.field-0.0
    (c.in_err-slot.ensures.chosen site stands sound s.value s.is))

pub returns : goal.returns
returns c = λ site stands sound.
    let core = c.args.self.now in
    let s = open-session core site stands c.args.actor c.in_ok-no_txn.ensures.open in
    let at = begin_state site.dag s.value.last c.args.begin.now in
    let chosen = c.in_ok-slot.ensures.chosen site stands sound s.value s.is in
    as-done Begun (CoreStands c.begin_at.new.self) (without_txn site c.args.actor (λ s. begin site c.args.actor s c.args.begin.now))
    (begun site c.args.actor at) site c.begin_at.result
    (begin-chosen core site stands c.args.actor c.args.begin.now c.in_ok-no_txn.ensures.none s.value s.is c.in_ok-slot.slot chosen)
    (c.begin_at.ensures site stands at chosen.0)
