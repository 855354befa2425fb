use Rattle.std.proofs.Common.{ap, ◌∙◌, [], ◌∷◌, if◌then◌else◌}
use Rattle.plain_dag.specs.Forks.{fork_points}
use Rattle.join_rules.specs.Valued.{written_base}
use Rattle.join_rules.specs.Values.{Unknown}
use Rattle.join_rules.proofs.SettlingLaws.{known-base, value-is}
use Rattle.join_rules.proofs.settling.value_of.Goals as goal

pub returns : goal.returns
returns c = λ rs ks stands x y ea eb parts.
    let began = c.in_ok-began.began in
    value-is c.args.rules.now rs x y c.args.key.now c.rule_for.result (if c.is_some.result then written_base began else Unknown) c.in_ok-left.left
    c.in_ok-right.right c.rule_for.ensures
    (ap (λ t. if t then written_base began else Unknown) c.is_some.ensures
    ∙ known-base c.args.store.now rs ks stands (fork_points rs (x ∷ y ∷ [])) c.args.parting c.args.key.now began parts c.in_ok-began.ensures)
    (c.in_ok-left.ensures rs ks stands x ea) (c.in_ok-right.ensures rs ks stands y eb) c.merged_reads.result c.merged_reads.ensures
