use Rattle.std.proofs.Common.{◌≡◌, ◌≤◌, ◌∙◌, length, sym, ap, subst, arith}
use Rattle.plain_dag.specs.Forks.{leaves}
use Rattle.state_dag.specs.Stands.{Stands}
use Rattle.plain_site.specs.Merges.{merge_at}
use Rattle.session_core.specs.Stands.{CoreStands}
use Rattle.session_core.specs.Gives.{GivesOrStops}
use Rattle.session_core.proofs.Merging.{states-told}
use Rattle.session_core.proofs.Parts.merge_leaves.Goals as goal

pub returns : goal.returns
returns c = λ site stands sound s is.
    let xs = leaves site.dag in
    let table = c.dag.ensures ∙ ap (λ v. v.store.table) c.self.view_is in
    let table_too = c.dag-dag.ensures ∙ ap (λ v. v.store.table) c.self.view_is in
    let count : c.leaves-count.result ≡ length xs = c.leaves-count.ensures site.dag site.collected
    (subst (λ t. Stands t site.dag site.collected) (sym table) stands.store.table) in
    let named = c.leaf_slots.ensures.leaves site.dag site.collected (subst (λ t. Stands t site.dag site.collected) (sym table_too) stands.store.table) in
    let few : length xs ≤ 8 = omega (arith, count, c.if-count-gt-MOST_STATES.false) in
    let all = c.as_slice.ensures ∙ states-told c.in_ok-leaves.leaves xs (sym c.in_ok-leaves.ensures ∙ named) in
    subst (λ ys. GivesOrStops (CoreStands c.merge_states.new.self) (merge_at site c.args.actor s.ceiling ys) site c.merge_states.result) all
    (c.merge_states.ensures (subst (λ ys. length ys ≤ 8) (sym all) few) site stands sound s is)
