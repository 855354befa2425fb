use Rattle.std.proofs.Common.{◌≡◌, Some, sym, subst}
use Rattle.state_dag.specs.Table.{id_at}
use Rattle.session_core.specs.Held.{seen}
use Rattle.session_core.specs.Stands.{CoreStands}
use Rattle.session_core.proofs.OpenSessions.{open-gives}
use Rattle.session_core.proofs.Parts.open.Goals as goal

pub returns : goal.returns
returns c = λ site stands sound.
    let here = subst (λ v. CoreStands v site) (sym c.self.view_is) stands in
    open-gives (seen c.self.inside) c.open_session.new.self site c.args.actor c.args.follow here c.in_ok-ceiling.ceiling c.id_of.result
    c.in_ok-ceiling.ensures.opened c.open_session.ensures.rest
    c.open_session.ensures.placed c.in_ok-ceiling.ensures.ceiling
    (subst (λ table. id_at table c.in_ok-ceiling.ceiling ≡ Some c.id_of.result) c.dag.ensures c.id_of.ensures.is)
