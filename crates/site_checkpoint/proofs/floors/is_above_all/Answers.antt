use Rattle.std.proofs.Common.{◌∙◌, ◌+◌, ◌&&◌, drop, sym, ap}
use Rattle.plain_dag.specs.Above.{is_above_all}
use Rattle.state_dag.specs.Table.{id_at}
use Rattle.begin_rule.proofs.NamedStates.{named-next}
use Rattle.site_checkpoint.proofs.floors.is_above_all.Goals as goal

pub returns-then-not-is_ancestor : goal.returns-then-not-is_ancestor
returns-then-not-is_ancestor c = λ rs ks stands x at ys are.
    let i = c.loop-other.other-index in
    let n = named-next (id_at c.args.dag.now) c.args.others.now ys i (record { 0 = 0 }) are c.loop-other-test.true in
    let told = c.is_ancestor.ensures.above rs ks stands x n.state at n.named in
    sym (c.loop-other.invariant rs ks stands x at ys are
    ∙ (ap (is_above_all rs x) n.next ∙ ap (λ b. b && is_above_all rs x (drop (i + 1) ys)) (sym told ∙ c.if-not-is_ancestor.true)))

pub loop-other-preserved : goal.loop-other-preserved
loop-other-preserved c = λ rs ks stands x at ys are.
    let i = c.loop-other.other-index in
    let n = named-next (id_at c.args.dag.now) c.args.others.now ys i (record { 0 = 0 }) are c.loop-other-test.true in
    let told = c.is_ancestor.ensures.above rs ks stands x n.state at n.named in
    c.loop-other.invariant rs ks stands x at ys are
    ∙ (ap (is_above_all rs x) n.next ∙ ap (λ b. b && is_above_all rs x (drop (i + 1) ys)) (sym told ∙ c.if-not-is_ancestor.false))
