use Rattle.std.proofs.Common.{Some, sym, ap, ◌∙◌}
use Rattle.std.proofs.lemmas.Option.{same_Some}
use Rattle.state_dag.specs.Table.{id_at}
use Rattle.join_rules.proofs.JointLaws.{may-be-settled}
use Rattle.join_rules.proofs.ReasonLaws.{some-unjoined, none-unjoined}
use Rattle.join_rules.proofs.open_forks.unjoined_in_order.Goals as goal

pub returns-in-Some : goal.returns-in-Some
returns-in-Some c = λ site stands sound x y ea eb two.
    let same = sym c.dag.ensures in
    some-unjoined c.args.rules.now site.dag x y c.id_of-first.result c.id_of-second.result c.in-Some.reason
    (same_Some x c.id_of-first.result (sym ea ∙ (ap (λ t. id_at t c.args.a) same ∙ c.id_of-first.ensures.is)))
    (same_Some y c.id_of-second.result (sym eb ∙ (ap (λ t. id_at t c.args.b) (sym c.dag-2.ensures) ∙ c.id_of-second.ensures.is)))
    (sym c.in-Some.is ∙ c.in_ok-reason.ensures site.dag site.collected stands x y ea eb (may-be-settled site sound x y two))

pub returns-in-None : goal.returns-in-None
returns-in-None c = λ site stands sound x y ea eb two.
    none-unjoined c.args.rules.now site.dag x y
    (sym c.in-None.is ∙ c.in_ok-reason.ensures site.dag site.collected stands x y ea eb (may-be-settled site sound x y two))
