use Rattle.std.proofs.Common.{◌≡◌, ◌∙◌, map, true, sym, ap, subst}
use Rattle.std.specs.List.{list_all}
use Rattle.state_dag.specs.Table.{Table, id_at, is_slot}
use Rattle.state_dag.proofs.Following.{childless_slots}
use Rattle.state_dag.proofs.Calls.{entries-found}
use Rattle.state_dag.proofs.LeafSlots.{leaf-slots-are, leaf-slots-name-leaves}
use Rattle.state_dag.proofs.StateDag.leaf_slots.Goals as goal

lent-are : (c : goal.After-as_slice) → c.as_slice.result.now ≡ childless_slots c.args.self.now.entries
lent-are c = c.as_slice.ensures.value ∙ c.self.invariant.childless ∙ ap (λ (t : Table). childless_slots t.entries) c.self.view_is

pub returns-clause-slots : goal.returns-clause-slots
returns-clause-slots c =
    let table = c.args.self.now in
    subst (λ ss. list_all (is_slot table) ss ≡ true) (sym (lent-are c))
    (leaf-slots-are table table.entries (entries-found c.self.inside table c.self.invariant c.self.view_is))

pub returns-clause-leaves : goal.returns-clause-leaves
returns-clause-leaves c = λ rs ks stands.
    let table = c.args.self.now in
    ap (map (id_at table)) (lent-are c) ∙ leaf-slots-name-leaves table rs ks stands (entries-found c.self.inside table c.self.invariant c.self.view_is)
