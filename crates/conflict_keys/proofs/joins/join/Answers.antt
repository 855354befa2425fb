use Rattle.std.proofs.Common.{◌∙◌, IsTrue, IfSome, sym, subst}
use Rattle.plain_dag.specs.Conflicts.{latest_writers}
use Rattle.state_dag.specs.Table.{is_slot}
use Rattle.conflict_keys.specs.Joins.{IsChosen}
use Rattle.conflict_keys.proofs.Choices.{none-chosen, some-chosen, choice-is_lowest, choice-is_split}
use Rattle.conflict_keys.proofs.joins.join.Goals as goal

pub returns-in-None-clause-joined : goal.returns-in-None-clause-joined
returns-in-None-clause-joined c = λ rs ks stands xs are.
    let ws = latest_writers rs c.args.key.now xs in
    none-chosen c.args.store.now.table rs ks ws (subst (λ o. IsChosen c.args.store.now.table rs ks ws o) c.in-None.is
    (c.candidate.ensures.chosen rs ks stands xs are))

pub returns-then-is_below_all-clause-joined : goal.returns-then-is_below_all-clause-joined
returns-then-is_below_all-clause-joined c = λ rs ks stands xs are.
    let table = c.args.store.now.table in
    let ws = latest_writers rs c.args.key.now xs in
    let there = subst (λ o. IfSome o (λ s. IsTrue (is_slot table s))) c.in-Some.is c.candidate.ensures.slot in
    let w = some-chosen table rs ks ws c.in-Some.slot there (subst (λ o. IsChosen table rs ks ws o) c.in-Some.is
    (c.candidate.ensures.chosen rs ks stands xs are)) in
    let below = c.is_below_all.ensures rs ks stands xs are w.0 w.2.0 w.1 in
    (w.0, choice-is_lowest rs stands.table.dag ws w.0 w.2 (sym below ∙ c.if-is_below_all.true), w.1)

pub returns-else-is_below_all-clause-joined : goal.returns-else-is_below_all-clause-joined
returns-else-is_below_all-clause-joined c = λ rs ks stands xs are.
    let table = c.args.store.now.table in
    let ws = latest_writers rs c.args.key.now xs in
    let there = subst (λ o. IfSome o (λ s. IsTrue (is_slot table s))) c.in-Some.is c.candidate.ensures.slot in
    let w = some-chosen table rs ks ws c.in-Some.slot there (subst (λ o. IsChosen table rs ks ws o) c.in-Some.is
    (c.candidate.ensures.chosen rs ks stands xs are)) in
    let below = c.is_below_all.ensures rs ks stands xs are w.0 w.2.0 w.1 in
    choice-is_split rs stands.table.dag ws w.0 w.2 (sym below ∙ c.if-is_below_all.false)
