use Rattle.std.proofs.Common.{filter, take_all, ap, sym, ◌∙◌}
use Rattle.tardis_base.specs.Ids.{root}
use Rattle.plain_dag.specs.Collection.{is_kept}
use Rattle.site_questions.proofs.Kept.{passing-next, failing-next}
use Rattle.site_questions.proofs.records.kept_of.Goals as goal
use Rattle.site_questions.proofs.records.kept_of.Goals.{then-is_in_table+in_ok-push, else-is_in_table}

pub loop-state-preserved : goal.loop-state-preserved
loop-state-preserved c = λ site stands.
    let p = is_kept site.dag site.collected in
    let i = c.loop-state.state-index in
    let before = c.loop-state.invariant site stands in
    let told = sym (c.is_in_table.ensures site.dag site.collected stands) in
    elim c.if-is_in_table.branch [
      | then-is_in_table+in_ok-push w ↦
          w.kept-is ∙ (w.in_ok-push.ensures.added
          ∙ passing-next p c.args.states.now i root c.loop-state.kept c.loop-state-test.true before (told ∙ w.if-is_in_table.true))
      | else-is_in_table w ↦
          w.kept-is ∙ failing-next p c.args.states.now i root c.loop-state.kept c.loop-state-test.true before (told ∙ w.if-is_in_table.false)
    ]

pub returns : goal.returns
returns c = λ site stands.
    c.loop-state.invariant site stands
    ∙ ap (filter (is_kept site.dag site.collected)) (take_all c.loop-state.state-index c.args.states.now c.loop-state-test.false)
