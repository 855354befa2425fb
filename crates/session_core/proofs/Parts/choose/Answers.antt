use Rattle.std.proofs.Common.{◌≡◌, ◌∙◌, Some, Ok, sym, ap, subst}
use Rattle.plain_dag.specs.Begin.{begin_state, last_arrived}
use Rattle.plain_dag.proofs.Leaves.{begins-at-leaves, leaves-are-admitted}
use Rattle.state_dag.specs.Table.{id_at}
use Rattle.state_dag.specs.Stands.{Stands}
use Rattle.begin_rule.specs.Choices.{ChosenAs}
use Rattle.plain_site.proofs.SoundBooks.{open-session}
use Rattle.session_core.specs.Stands.{CoreStands}
use Rattle.session_core.proofs.Parts.choose.Goals as goal

pub returns-in-Any-clause-chosen : goal.returns-in-Any-clause-chosen
returns-in-Any-clause-chosen c = λ site stands sound s is.
    let here = subst (λ v. CoreStands v site) (sym c.self.view_is) stands in
    let table = c.dag.ensures ∙ ap (λ v. v.store.table) c.self.view_is in
    let stands_table = subst (λ t. Stands t site.dag site.collected) (sym c.dag.ensures) here.store.table in
    let named = subst (λ t. id_at t c.last.result ≡ Some (last_arrived site.dag)) table (c.last.ensures.last site.dag site.collected stands_table) in
    let session = (open-session site c.args.actor s sound is).0 in
    let leaf = begins-at-leaves site.dag sound.dag s.last session.last in
    subst (λ x. ChosenAs c.args.self.now.store.table site.dag s.ceiling x (Ok c.last.result)) (sym (ap (begin_state site.dag s.last) c.in-Any.is))
    (named, leaf.0, leaves-are-admitted site.dag sound.dag (last_arrived site.dag) s.ceiling session.ceiling leaf.1)
