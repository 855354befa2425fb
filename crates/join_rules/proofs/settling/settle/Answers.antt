use Rattle.std.proofs.Common.{◌≡◌, ap, ap₂, sym, ◌∙◌, [], ◌∷◌, subst, Some, length}
use Rattle.tardis_base.specs.Keys.{are_ascending_keys}
use Rattle.plain_dag.specs.Forks.{fork_points}
use Rattle.state_dag.specs.Stands.{Stands}
use Rattle.state_dag.specs.Table.{id_at}
use Rattle.join_rules.specs.Settlings.{IsParting}
use Rattle.plain_dag.specs.Conflicts.{conflict_keys}
use Rattle.plain_dag.proofs.ConflictKeys.{lists-conflict-keys}
use Rattle.conflict_keys.specs.Pages.{IsPageOf}
use Rattle.join_rules.proofs.SettlingLaws.{all-behind, wide, few, isnt-wide, shown-all, settled}
use Rattle.join_rules.proofs.settling.settle.Goals as goal

pub returns-then-page-gt-MOST_KEYS : goal.returns-then-page-gt-MOST_KEYS
returns-then-page-gt-MOST_KEYS c = λ rs ks stands x y ea eb may.
    let keys = conflict_keys rs (x ∷ y ∷ []) in
    let page = subst (λ zs. IsPageOf zs c.in_ok-page.page) (all-behind keys may.keys)
    (c.in_ok-page.ensures rs ks stands (x ∷ y ∷ []) (ap₂ (λ o q. o ∷ q ∷ []) ea eb)) in
    (wide keys c.in_ok-page.page.total page.0 c.if-page-gt-MOST_KEYS.true, page.0)

pub returns : goal.returns
returns c = λ rs ks stands x y ea eb may.
    let keys = conflict_keys rs (x ∷ y ∷ []) in
    let page = subst (λ zs. IsPageOf zs c.in_ok-page.page) (all-behind keys may.keys)
    (c.in_ok-page.ensures rs ks stands (x ∷ y ∷ []) (ap₂ (λ o q. o ∷ q ∷ []) ea eb)) in
    let short = few keys c.in_ok-page.page.total page.0 c.if-page-gt-MOST_KEYS.false in
    let named_a = subst (λ t. id_at t c.args.a ≡ Some x) (sym c.dag.ensures) ea in
    let named_b = subst (λ t. id_at t c.args.b ≡ Some y) (sym c.dag.ensures) eb in
    let parts =
    subst (λ t. IsParting t (fork_points rs (x ∷ y ∷ [])) c.in_ok-parting.parting) c.dag.ensures
    (c.in_ok-parting.ensures.parts rs ks (subst (λ t. Stands t rs ks) (sym c.dag.ensures) stands.table) x y named_a named_b may.forks) in
    let shown = c.as_slice.ensures ∙ shown-all keys c.in_ok-page.page.first short page.1 in
    settled c.args.rules.now rs x y c.as_slice.result.now c.values_of.result shown (isnt-wide (length keys) short)
    (c.values_of.ensures rs ks stands x y ea eb parts (ap are_ascending_keys shown ∙ (lists-conflict-keys rs (x ∷ y ∷ [])).ascends))
