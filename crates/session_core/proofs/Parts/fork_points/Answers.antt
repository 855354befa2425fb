use Rattle.std.proofs.Common.{◌≡◌, ◌∙◌, Some, sym, ap, ap₂, map, List, ℕ, subst}
use Rattle.tardis_base.specs.declared.ids.StateId.{StateId}
use Rattle.tardis_base.specs.declared.replies.Reply.TheVariants.{States}
use Rattle.plain_dag.specs.Forks.{fork_points}
use Rattle.state_dag.specs.Table.{id_at}
use Rattle.state_dag.specs.Stands.{Stands}
use Rattle.merge_txn.specs.declared.Txn.TheVariants.{Merge as KeptMerge}
use Rattle.plain_site.specs.Answers.{with_txn}
use Rattle.plain_site.specs.Merges.{fork_points_of, page_of_states}
use Rattle.session_core.specs.Stands.{CoreStands}
use Rattle.session_core.proofs.Answers.{as-given}
use Rattle.session_core.proofs.Standing.{has-answer}
use Rattle.session_core.proofs.Parts.fork_points.Goals as goal

pub returns : goal.returns
returns c = λ site stands sound.
    let t = c.in_ok-merge.merge.now in
    let has = c.in_ok-merge.ensures.stands site stands sound in
    let page = c.in_ok-page.page in
    let table = c.dag.ensures ∙ ap (λ v. v.store.table) c.self.view_is in
    let here = subst (λ d. Stands d site.dag site.collected) (sym table) stands.store.table in
    let named = subst (λ d. map (id_at d) t.slots ≡ map (λ x. Some x) t.states) (sym table) has.named in
    let is = c.in_ok-page.ensures site.dag site.collected here t.states (ap (map (id_at c.dag.result.now)) c.as_slice.ensures ∙ named) in
    as-given (CoreStands c.args.self.now) (with_txn site c.args.actor (λ s u. fork_points_of site u))
    (site, page_of_states (fork_points site.dag t.states)) (States page.total page.first)
    (has-answer c.args.self.now.store.table site c.args.actor (KeptMerge t) has (fork_points_of site))
    (stands, ap₂ (λ (n : ℕ) (xs : List StateId). States n xs) is.0 is.1)
