use Rattle.std.proofs.Common.{◌≡◌, [], sym, subst}
use Rattle.state_dag.specs.Stands.{Stands}
use Rattle.version_list.specs.Versions.{listed_keys, versions_of}
use Rattle.session_core.specs.Stands.{CoreStands}
use Rattle.tardisd_main.proofs.Checking.{site_told}
use Rattle.tardisd_main.proofs.checks.checked.Goals as goal

pub returns-clause-site : goal.returns-clause-site
returns-clause-site c = λ a stands.
    let core = subst (λ held. CoreStands held a.site) (sym c.core.ensures) stands.0.0 in
    site_told c.store-store.result.now a.site (listed_keys c.versions.result.now) _ (c.store-store.ensures.stands a.site core)
    (λ rs ks is. c.known.ensures rs ks (subst (λ t. Stands t rs ks) (sym c.dag.ensures) is))
    (λ rs ks is. c.kept.ensures rs ks (subst (λ t. Stands t rs ks) (sym c.dag-2.ensures) is))
    (λ rs ks is. c.leaves.ensures rs ks (subst (λ t. Stands t rs ks) (sym c.dag-3.ensures) is)) c.keys.ensures.count c.keys.ensures.distinct
    (λ k none. subst (λ v. versions_of v k ≡ []) c.versions.ensures.is (c.keys.ensures.listed k none))
