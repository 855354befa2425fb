use Rattle.std.proofs.Common.{◌≡◌, ◌∙◌, Ok, Err, Some, map, sym, ap, subst}
use Rattle.state_dag.specs.Table.{id_at}
use Rattle.plain_site.specs.Merges.{merge_at, merging, in_order}
use Rattle.session_core.specs.Held.{seen}
use Rattle.session_core.specs.Stands.{CoreStands}
use Rattle.site_answers.specs.Stops.{merge_stop}
use Rattle.session_core.proofs.Answers.{stopped, as-answer}
use Rattle.session_core.proofs.Merging.{all-chosen, merge-stops, chosen-under}
use Rattle.session_core.proofs.Parts.merge_states.Goals as goal

pub returns-in_err-slots : goal.returns-in_err-slots
returns-in_err-slots c = λ few site stands sound s is.
    let here = subst (λ v. CoreStands v site) (sym c.self.view_is) stands in
    let xs = c.args.states.now in
    let fault = c.in_err-slots.field-0.0 in
    let chosen = chosen-under (seen c.self.inside) site here sound c.args.actor s is c.dag.result.now c.dag.ensures c.ceiling-ceiling.result
    c.ceiling-ceiling.ensures.ceiling xs (Err fault) c.in_err-slots.ensures.chosen in
    stopped (CoreStands c.args.self.now) (merge_at site c.args.actor s.ceiling xs) site (merge_stop fault) c.from_residual.result c.from_residual.ensures.1
    (merge-stops site c.args.actor s.ceiling xs few c.dag.result.now fault chosen (CoreStands c.args.self.now) stands)

pub returns : goal.returns
returns c = λ few site stands sound s is.
    let here = subst (λ v. CoreStands v site) (sym c.self.view_is) stands in
    let xs = c.args.states.now in
    let chosen = chosen-under (seen c.self.inside) site here sound c.args.actor s is c.dag.result.now c.dag.ensures c.ceiling-ceiling.result
    c.ceiling-ceiling.ensures.ceiling xs (Ok c.in_ok-slots.slots) c.in_ok-slots.ensures.chosen in
    let named = subst (λ t. map (id_at t) c.as_slice.result.now ≡ map (λ x. Some x) xs) (c.dag.ensures ∙ ap (λ v. v.store.table) c.self.view_is)
    (ap (map (id_at c.dag.result.now)) c.as_slice.ensures ∙ chosen.3) in
    as-answer (CoreStands c.merge_at.new.self) (merge_at site c.args.actor s.ceiling xs) (merging site c.args.actor (in_order xs)) site c.merge_at.result
    (all-chosen site c.args.actor s.ceiling xs few c.dag.result.now c.in_ok-slots.slots chosen) (c.merge_at.ensures site stands xs named)
