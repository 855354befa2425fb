use Rattle.std.proofs.Common.{◌∙◌, Some, IsTrue, sym, ap, subst}
use Rattle.plain_dag.specs.Begin.{begin_state}
use Rattle.plain_dag.specs.Entries.{entry_of}
use Rattle.plain_dag.specs.States.{is_known}
use Rattle.plain_dag.specs.Collection.{stand_in}
use Rattle.state_dag.specs.Stands.{Stands}
use Rattle.ceiling_book.specs.Places.{ArePlaced}
use Rattle.begin_rule.specs.Choices.{ChosenAs}
use Rattle.plain_site.proofs.SoundBooks.{open-session}
use Rattle.session_core.specs.Stands.{CoreStands}
use Rattle.session_core.proofs.Beginning.{collected-above}
use Rattle.session_core.proofs.Parts.choose_for.Goals as goal

pub returns-clause-chosen : goal.returns-clause-chosen
returns-clause-chosen c = λ site stands sound s is.
    let here = subst (λ v. CoreStands v site) (sym c.self.view_is) stands in
    let table = c.dag.result.now in
    let stands_table = subst (λ t. Stands t site.dag site.collected) (sym c.dag.ensures) here.store.table in
    let placed = subst (λ t. ArePlaced c.self.inside.book t site.dag site.collected) (sym c.dag.ensures) here.placed in
    let entry = ap (entry_of c.args.actor) here.sessions ∙ is in
    let same = c.last.ensures.state s entry in
    let known = subst (λ x. IsTrue (is_known site.dag x)) (sym same) (open-session site c.args.actor s sound is).0.last in
    let chosen =
    c.choose.ensures.chosen site.dag site.collected stands_table s.ceiling (c.ceiling-ceiling.ensures.ceiling table site.dag site.collected placed s entry)
    known
    (c.last.ensures.stand_in table site.dag site.collected placed s entry ∙ ap (λ x. Some (stand_in site.dag site.collected x)) (sym same))
    (collected-above site c.args.actor s sound is) in
    subst (λ x. ChosenAs c.args.self.now.store.table site.dag s.ceiling (begin_state site.dag x c.args.begin.now) c.choose.result) same
    (subst (λ t. ChosenAs t site.dag s.ceiling (begin_state site.dag c.last.result.0 c.args.begin.now) c.choose.result)
    (c.dag.ensures ∙ ap (λ v. v.store.table) c.self.view_is) chosen)
