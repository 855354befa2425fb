use Rattle.std.proofs.Common.{List, sym, ap, subst, ◌∙◌, ◌==◌, length}
use Rattle.std.proofs.lemmas.Bool.{eq-eqb}
use Rattle.plain_dag.specs.Begin.{last_arrived}
use Rattle.plain_dag.specs.Floors.{Floor, Sessions, are_unpromised_above}
use Rattle.state_dag.specs.Stands.{Stands}
use Rattle.ceiling_book.specs.Places.{ArePlaced}
use Rattle.session_core.specs.Stands.{CoreStands}
use Rattle.session_core.proofs.TakingRows.{both-hold}
use Rattle.session_core.proofs.Parts.may_go_on.Goals as goal

pub returns-then-sessions-eq0 : goal.returns-then-sessions-eq0
returns-then-sessions-eq0 c = λ site both.
    let here = subst (λ v. CoreStands v site) (sym c.self.view_is) both.0 in
    let table = subst (λ t. Stands t site.dag site.collected) (sym c.dag-dag.ensures) here.store.table in
    let placed = subst (λ t. ArePlaced c.self.inside.book t site.dag site.collected) (sym c.dag-dag.ensures) here.placed in
    let told = c.are_unpromised_above.ensures site.dag site.collected table placed (last_arrived site.dag)
    (c.last.ensures.last site.dag site.collected table) in
    both-hold (length site.sessions == 0) (are_unpromised_above site.dag site.floors (last_arrived site.dag)) c.are_unpromised_above.result
    (told ∙ ap (λ (fs : List Floor). are_unpromised_above site.dag fs (last_arrived site.dag)) here.floors)
    (eq-eqb (length site.sessions) 0
    (sym (c.sessions.ensures.is ∙ ap (λ (ss : Sessions). length ss) here.sessions) ∙ c.if-sessions-eq0.true))
