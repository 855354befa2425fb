use Rattle.std.proofs.Common.{◌≡◌, Some, ap, sym, subst, ◌∙◌, [], ◌∷◌, if◌then◌else◌}
use Rattle.plain_dag.specs.Forks.{fork_points}
use Rattle.state_dag.specs.Stands.{Stands}
use Rattle.state_dag.specs.Table.{id_at}
use Rattle.join_rules.specs.Settlings.{IsParting}
use Rattle.join_rules.specs.Valued.{written_base}
use Rattle.join_rules.specs.Values.{Unknown}
use Rattle.join_rules.proofs.SettlingLaws.{known-base}
use Rattle.join_rules.proofs.ReasonLaws.{cause-is}
use Rattle.join_rules.proofs.open_forks.cause_of.Goals as goal

pub returns : goal.returns
returns c = λ rs ks stands x y ea eb kept.
    let forks = fork_points rs (x ∷ y ∷ []) in
    let named_a = subst (λ t. id_at t c.args.a ≡ Some x) (sym c.dag.ensures) ea in
    let named_b = subst (λ t. id_at t c.args.b ≡ Some y) (sym c.dag.ensures) eb in
    let parts =
    subst (λ t. IsParting t forks c.in_ok-parting.parting) c.dag.ensures
    (c.in_ok-parting.ensures.parts rs ks (subst (λ t. Stands t rs ks) (sym c.dag.ensures) stands.table) x y named_a named_b kept) in
    let began = c.in_ok-began.began in
    c.cause_of_reads.ensures
    ∙ cause-is c.args.rules.now rs x y c.args.key.now c.rule_for.result (if c.is_some.result then written_base began else Unknown) c.in_ok-left.left
    c.in_ok-right.right c.rule_for.ensures
    (ap (λ t. if t then written_base began else Unknown) c.is_some.ensures
    ∙ known-base c.args.store.now rs ks stands forks c.in_ok-parting.parting c.args.key.now began parts c.in_ok-began.ensures)
    (c.in_ok-left.ensures rs ks stands x ea) (c.in_ok-right.ensures rs ks stands y eb)
