use Rattle.std.proofs.Common.{◌≡◌, ◌+◌, suc, not, find, take, take_all, sym, ap, ◌∙◌, arith}
use Rattle.tardis_base.specs.Ids.{root}
use Rattle.plain_dag.specs.States.{is_known}
use Rattle.state_dag.proofs.Passing.{find-first, find-none_more}
use Rattle.site_questions.proofs.denials.unknown_of.Goals as goal

pub loop-state-preserved : goal.loop-state-preserved
loop-state-preserved c = λ rs ks stands.
    let i = c.loop-state.state-index in
    let next : i + 1 ≡ suc i = omega arith in
    ap (λ m. find (λ x. not (is_known rs x)) (take m c.args.states.now)) next
    ∙ find-none_more (λ x. not (is_known rs x)) c.args.states.now i root (c.loop-state.invariant rs ks stands) c.loop-state-test.true
    (ap not (sym (c.knows.ensures rs ks stands) ∙ c.if-not-knows.false))

pub returns-then-not-knows : goal.returns-then-not-knows
returns-then-not-knows c = λ rs ks stands.
    sym (find-first (λ x. not (is_known rs x)) c.args.states.now c.loop-state.state-index root (c.loop-state.invariant rs ks stands) c.loop-state-test.true
    (ap not (sym (c.knows.ensures rs ks stands) ∙ c.if-not-knows.true)))

pub returns : goal.returns
returns c = λ rs ks stands.
    sym (c.loop-state.invariant rs ks stands)
    ∙ ap (find (λ x. not (is_known rs x))) (take_all c.loop-state.state-index c.args.states.now c.loop-state-test.false)
