use Rattle.std.proofs.Common.{◌≡◌, ◌∙◌, Some, IsTrue, map, sym, ap, subst}
use Rattle.std.specs.List.{list_all}
use Rattle.plain_dag.specs.Entries.{with_entry}
use Rattle.state_dag.specs.Table.{id_at, is_slot}
use Rattle.plain_site.specs.Merges.{in_order}
use Rattle.session_core.specs.Held.{seen}
use Rattle.session_core.specs.Stands.{CoreStands}
use Rattle.session_core.specs.Txns.{has_slots}
use Rattle.session_core.proofs.Memory.{begun-held}
use Rattle.session_core.proofs.Merging.{states-told, merges-at}
use Rattle.session_core.proofs.Parts.merge_at.Goals as goal

pub invariant_of-self-2 : goal.invariant_of-self-2
invariant_of-self-2 c =
    let slots = subst (λ t. IsTrue (list_all (is_slot t) c.in_ok-slots.slots.items)) c.dag-dag.ensures c.in_ok-slots.ensures.slots in
    begun-held c.self.inside c.self.invariant c.args.actor c.merge-txn.result c.begin.new.self
    (subst (λ t. IsTrue (has_slots c.self.inside.store.table t)) (sym c.merge-txn.ensures)
    (subst (λ ss. IsTrue (list_all (is_slot c.self.inside.store.table) ss)) (sym c.from_vec.ensures) slots)) c.in_ok-begin.ensures.begun

pub returns : goal.returns
returns c = λ site stands xs e.
    let here = subst (λ v. CoreStands v site) (sym c.self.view_is) stands in
    let table = c.dag-dag.ensures ∙ ap (λ v. v.store.table) c.self.view_is in
    let named = c.in_ok-slots.ensures.ordered xs (subst (λ t. map (id_at t) c.args.slots.now ≡ map (λ x. Some x) xs) (sym table) e) in
    let told = sym c.in_ok-states.ensures ∙ ap (map (id_at c.dag-dag.result.now)) c.as_slice.ensures.value ∙ named in
    let kept = subst (λ t. map (id_at t) c.in_ok-slots.slots.items ≡ map (λ x. Some x) (in_order xs)) c.dag-dag.ensures named in
    merges-at (seen c.self.inside) site here c.args.actor (in_order xs) c.in_ok-states.states c.in_ok-told.told c.from_vec.result c.begin.new.self
    (states-told c.in_ok-states.states (in_order xs) told) c.in_ok-told.ensures (ap (map (id_at c.self.inside.store.table)) c.from_vec.ensures ∙ kept)
    (c.in_ok-begin.ensures.begun ∙ ap (λ t. with_entry c.args.actor t c.self.inside.txns) c.merge-txn.ensures)
