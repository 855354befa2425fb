use Rattle.std.proofs.Common.{◌≡◌, ◌∙◌, ◌+◌, find, drop, sym, ap}
use Rattle.plain_dag.specs.Above.{are_comparable}
use Rattle.state_dag.specs.Table.{id_at}
use Rattle.begin_rule.proofs.NamedStates.{named-next, found-here, found-behind}
use Rattle.begin_rule.proofs.merges.first_comparable.Goals as goal

pub returns-then-are_comparable-clause-first : goal.returns-then-are_comparable-clause-first
returns-then-are_comparable-clause-first c = λ rs ks stands x ys at are.
    let i = c.loop-other.other-index in
    let n = named-next (id_at c.args.dag.now) c.args.others.now ys i (record { 0 = 0 }) are c.loop-other-test.true in
    let told : c.are_comparable.result ≡ are_comparable rs x n.state = c.are_comparable.ensures rs ks stands x n.state at n.named in
    n.named
    ∙ sym (c.loop-other.invariant rs ks stands x ys at are
    ∙ (ap (find (are_comparable rs x)) n.next ∙ found-here (are_comparable rs x) n.state (drop (i + 1) ys) (sym told ∙ c.if-are_comparable.true)))

pub loop-other-preserved : goal.loop-other-preserved
loop-other-preserved c = λ rs ks stands x ys at are.
    let i = c.loop-other.other-index in
    let n = named-next (id_at c.args.dag.now) c.args.others.now ys i (record { 0 = 0 }) are c.loop-other-test.true in
    let told : c.are_comparable.result ≡ are_comparable rs x n.state = c.are_comparable.ensures rs ks stands x n.state at n.named in
    c.loop-other.invariant rs ks stands x ys at are
    ∙ (ap (find (are_comparable rs x)) n.next ∙ found-behind (are_comparable rs x) n.state (drop (i + 1) ys) (sym told ∙ c.if-are_comparable.false))
