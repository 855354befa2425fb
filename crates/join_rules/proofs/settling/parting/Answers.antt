use Rattle.std.proofs.Common.{ap₂, sym, ◌∙◌, [], ◌∷◌}
use Rattle.plain_dag.specs.Forks.{fork_points}
use Rattle.join_rules.specs.Settlings.{only}
use Rattle.join_rules.proofs.SettlingLaws.{parted-at, unparted}
use Rattle.join_rules.proofs.settling.parting.Goals as goal

pub returns-in-Some-clause-parts : goal.returns-in-Some-clause-parts
returns-in-Some-clause-parts c = λ rs ks stands x y ea eb kept.
    let forks = fork_points rs (x ∷ y ∷ []) in
    let page = c.in_ok-page.ensures rs ks stands (x ∷ y ∷ []) (ap₂ (λ o q. o ∷ q ∷ []) ea eb) in
    parted-at c.args.dag.now rs ks forks c.in-Some.state c.slot_of.result (sym c.in-Some.is ∙ c.only.ensures ∙ ap₂ only page.0 page.1)
    c.slot_of.ensures.found (λ e. c.slot_of.ensures.none e rs ks stands) kept

pub returns-clause-parts : goal.returns-clause-parts
returns-clause-parts c = λ rs ks stands x y ea eb kept.
    let page = c.in_ok-page.ensures rs ks stands (x ∷ y ∷ []) (ap₂ (λ o q. o ∷ q ∷ []) ea eb) in
    unparted c.args.dag.now (fork_points rs (x ∷ y ∷ [])) (sym c.in-None.is ∙ c.only.ensures ∙ ap₂ only page.0 page.1)
