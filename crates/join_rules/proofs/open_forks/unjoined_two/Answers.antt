use Rattle.std.proofs.Common.{IfOk, ◌≡◌, sym, ap, subst, ◌∙◌}
use Rattle.state_dag.specs.Table.{id_at}
use Rattle.join_rules.proofs.ReasonLaws.{straight-two, turned-two}
use Rattle.join_rules.proofs.LeafLaws.{different-in-order, different-exchanged}
use Rattle.join_rules.proofs.open_forks.unjoined_two.Goals as goal

pub returns-then-comes_first : goal.returns-then-comes_first
returns-then-comes_first c = λ site stands sound x y ea eb two.
    let same = sym c.dag.ensures in
    let before = sym (c.comes_first.ensures x y (sym (ap (λ t. id_at t c.args.a) same) ∙ ea) (sym (ap (λ t. id_at t c.args.b) same) ∙ eb)) ∙ c.if-comes_first.true in
    subst (λ o. IfOk c.unjoined_in_order.result (λ one. one ≡ o)) (straight-two c.args.rules.now site.dag x y before)
    (c.unjoined_in_order.ensures site stands sound x y ea eb (different-in-order site.dag x y two before))

pub returns-else-comes_first : goal.returns-else-comes_first
returns-else-comes_first c = λ site stands sound x y ea eb two.
    let same = sym c.dag.ensures in
    let behind = sym (c.comes_first.ensures x y (sym (ap (λ t. id_at t c.args.a) same) ∙ ea) (sym (ap (λ t. id_at t c.args.b) same) ∙ eb)) ∙ c.if-comes_first.false in
    subst (λ o. IfOk c.unjoined_in_order-else-comes_first.result (λ one. one ≡ o)) (turned-two c.args.rules.now site.dag x y behind)
    (c.unjoined_in_order-else-comes_first.ensures site stands sound y x eb ea (different-exchanged site.dag x y two behind))
