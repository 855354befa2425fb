use Rattle.std.proofs.Common.{◌≡◌, ◌∙◌, [], ◌∷◌, Some, sym, ap, subst}
use Rattle.plain_site.specs.Site.{Single}
use Rattle.plain_site.specs.Commits.{commit_at, commit_below}
use Rattle.state_dag.specs.Table.{id_at}
use Rattle.state_dag.specs.Stands.{Stands}
use Rattle.site_answers.specs.Told.{commit_reply}
use Rattle.session_core.specs.Stands.{CoreStands}
use Rattle.site_answers.specs.Stops.{branches_stop}
use Rattle.session_core.proofs.Answers.{does-stop, as-done}
use Rattle.session_core.proofs.Committing.{passes-on, branches-stop, few-children}
use Rattle.session_core.proofs.Parts.commit_at.Goals as goal

pub returns-in_err-check : goal.returns-in_err-check
returns-in_err-check c = λ site stands sound t x found named arrives.
    let table = c.dag.ensures ∙ ap (λ v. v.store.table) c.self.view_is in
    let b = c.in_err-check.field-0.0 in
    let checked = c.in_err-check.ensures site.dag site.collected (subst (λ z. Stands z site.dag site.collected) (sym table) stands.store.table) x
    (subst (λ z. id_at z c.args.landing ≡ Some x) (sym table) named) in
    does-stop commit_reply (CoreStands c.args.self.now) (commit_at site c.args.actor t c.args.flags c.args.k x) site
    (branches_stop b) c.from_residual.result c.from_residual.ensures.1
    (stands, branches-stop site c.args.actor t c.args.flags c.args.k x b (few-children site sound x) checked)

pub returns : goal.returns
returns c = λ site stands sound t x found named arrives.
    let table = c.dag.ensures ∙ ap (λ v. v.store.table) c.self.view_is in
    let checked = c.in_ok-check.ensures site.dag site.collected (subst (λ z. Stands z site.dag site.collected) (sym table) stands.store.table) x
    (subst (λ z. id_at z c.args.landing ≡ Some x) (sym table) named) in
    as-done commit_reply (CoreStands c.commit_below.new.self) (commit_at site c.args.actor t c.args.flags c.args.k x)
    (commit_below site c.args.actor (x ∷ []) t.writes []) site c.commit_below.result
    (passes-on site c.args.actor t c.args.flags c.args.k x checked)
    (c.commit_below.ensures site stands (Single t) (x ∷ []) found (ap (λ o. o ∷ []) named) arrives)
