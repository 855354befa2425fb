use Rattle.std.proofs.Common.{◌≡◌, ◌+◌, suc, find, take, take_all, sym, ap, ◌∙◌, arith}
use Rattle.tardis_base.specs.Ids.{root, is_among}
use Rattle.state_dag.proofs.Passing.{find-first, find-none_more}
use Rattle.site_questions.proofs.denials.collected_of.Goals as goal

pub loop-state-preserved : goal.loop-state-preserved
loop-state-preserved c = λ rs ks stands.
    let i = c.loop-state.state-index in
    let next : i + 1 ≡ suc i = omega arith in
    ap (λ m. find (λ x. is_among x ks) (take m c.args.states.now)) next
    ∙ find-none_more (λ x. is_among x ks) c.args.states.now i root (c.loop-state.invariant rs ks stands) c.loop-state-test.true
    (sym (c.is_collected.ensures rs ks stands) ∙ c.if-is_collected.false)

pub returns-then-is_collected : goal.returns-then-is_collected
returns-then-is_collected c = λ rs ks stands.
    sym (find-first (λ x. is_among x ks) c.args.states.now c.loop-state.state-index root (c.loop-state.invariant rs ks stands) c.loop-state-test.true
    (sym (c.is_collected.ensures rs ks stands) ∙ c.if-is_collected.true))

pub returns : goal.returns
returns c = λ rs ks stands.
    sym (c.loop-state.invariant rs ks stands) ∙ ap (find (λ x. is_among x ks)) (take_all c.loop-state.state-index c.args.states.now c.loop-state-test.false)
