use Rattle.std.proofs.Common.{◌≡◌, ◌∙◌, Some, IsTrue, sym, ap, subst}
use Rattle.plain_dag.specs.Entries.{with_entry}
use Rattle.state_dag.specs.Table.{id_at, is_slot}
use Rattle.session_core.specs.Held.{seen}
use Rattle.session_core.specs.Stands.{CoreStands}
use Rattle.session_core.specs.Txns.{has_slots}
use Rattle.session_core.proofs.Memory.{begun-held}
use Rattle.session_core.proofs.Beginning.{begins-at}
use Rattle.session_core.proofs.Parts.begin_at.Goals as goal

pub invariant_of-self-2 : goal.invariant_of-self-2
invariant_of-self-2 c =
    begun-held c.self.inside c.self.invariant c.args.actor c.single.result c.begin.new.self
    (subst (λ t. IsTrue (has_slots c.self.inside.store.table t)) (sym c.single.ensures)
    (subst (λ v. IsTrue (is_slot v.store.table c.args.slot)) (sym c.self.view_is) c.requires)) c.in_ok-begin.ensures.begun

pub returns : goal.returns
returns c = λ site stands x named.
    let here = subst (λ v. CoreStands v site) (sym c.self.view_is) stands in
    begins-at (seen c.self.inside) site here c.args.actor x c.id_of-state.result c.args.slot c.begin.new.self
    (subst (λ v. id_at v.store.table c.args.slot ≡ Some x) (sym c.self.view_is) named)
    (subst (λ t. id_at t c.args.slot ≡ Some c.id_of-state.result) c.dag.ensures c.id_of-state.ensures.is)
    (c.in_ok-begin.ensures.begun ∙ ap (λ t. with_entry c.args.actor t c.self.inside.txns) c.single.ensures)
