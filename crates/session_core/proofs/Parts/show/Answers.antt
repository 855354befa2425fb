use Rattle.std.proofs.Common.{◌∙◌, sym, ap, subst}
use Rattle.tardis_base.specs.declared.replies.Reply.TheVariants.{Shown}
use Rattle.state_dag.specs.Stands.{Stands}
use Rattle.plain_dag.specs.States.{arrival, children}
use Rattle.plain_dag.specs.Paths.{fork_path}
use Rattle.plain_site.specs.Shows.{show}
use Rattle.session_core.specs.Stands.{CoreStands}
use Rattle.session_core.proofs.Answers.{as-given}
use Rattle.session_core.proofs.Showing.{is-shown, shown-as}
use Rattle.session_core.proofs.Parts.show.Goals as goal

pub returns : goal.returns
returns c = λ site stands sound.
    let table = c.dag-dag.ensures ∙ ap (λ v. v.store.table) c.self.view_is in
    let here = subst (λ t. Stands t site.dag site.collected) (sym table) stands.store.table in
    let x = c.args.state in
    let known = sym (c.knows.ensures site.dag site.collected here) ∙ c.if-not-knows.false in
    let named = c.in-Some.ensures.found in
    as-given (CoreStands c.args.self.now) (show site x) (site, Shown (arrival site.dag x) (children site.dag x) (fork_path site.dag site.collected x))
    (Shown c.arrival.result c.from_vec.result c.in_ok-path.field-0)
    (is-shown site c.dag-dag.result.now c.in-Some.slot x here named known) (
      stands,
      shown-as (c.arrival.ensures.arrival site.dag site.collected here x named)
          (c.from_vec.ensures ∙ c.in_ok-children.ensures.items ∙ c.children.ensures site.dag site.collected here x named)
          (c.in_ok-path.ensures site.dag site.collected here x named),
    )
