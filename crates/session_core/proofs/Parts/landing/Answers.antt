use Rattle.std.proofs.Common.{◌≡◌, Some, sym, subst}
use Rattle.tardis_base.specs.Keys.{keys_of}
use Rattle.plain_dag.specs.Landing.{landing, guarded}
use Rattle.state_dag.specs.Table.{id_at}
use Rattle.session_core.specs.Stands.{CoreStands}
use Rattle.session_core.proofs.Parts.landing.Goals as goal

pub returns-clause-landing : goal.returns-clause-landing
returns-clause-landing c = λ site stands at free.
    let here = subst (λ v. CoreStands v site) (sym c.self.view_is) stands in
    let t = c.args.single.now in
    subst (λ v. id_at v.store.table c.landing.result ≡ Some (landing site.dag (guarded c.args.flags t.reads (keys_of t.writes)) t.state)) c.self.view_is
    (c.landing.ensures.landing site.dag site.collected here.store t.state (subst (λ v. id_at v.store.table t.slot ≡ Some t.state) (sym c.self.view_is) at) free)
