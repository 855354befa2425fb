use Rattle.std.proofs.Common.{sym, subst}
use Rattle.state_dag.specs.Stands.{Stands}
use Rattle.load_run.specs.Held.{Plays}
use Rattle.load_run.proofs.players.Player.states.Goals as goal

pub returns-clause-known : goal.returns-clause-known
returns-clause-known g c = λ play h.
    let here = subst (λ v. Plays g.A.AnySite.stands v play) (sym c.self.view_is) h in
    let store = c.store.ensures.stands play.site here.site in
    c.known.ensures play.site.dag play.site.collected
    (subst (λ t. Stands t play.site.dag play.site.collected) (sym c.dag-dag.ensures) store.table)

pub returns-clause-kept : goal.returns-clause-kept
returns-clause-kept g c = λ play h.
    let here = subst (λ v. Plays g.A.AnySite.stands v play) (sym c.self.view_is) h in
    let store = c.store.ensures.stands play.site here.site in
    c.kept.ensures play.site.dag play.site.collected
    (subst (λ t. Stands t play.site.dag play.site.collected) (sym c.dag-dag.ensures) store.table)
