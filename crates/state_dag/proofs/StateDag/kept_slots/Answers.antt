use Rattle.std.proofs.Common.{◌≡◌, ◌∙◌, map, true, sym, ap, subst}
use Rattle.std.specs.List.{list_all}
use Rattle.state_dag.specs.Table.{Table, Entry, id_at, is_slot}
use Rattle.state_dag.proofs.Calls.{entries-found}
use Rattle.state_dag.proofs.Memory.{kept-slots, kept-now}
use Rattle.state_dag.proofs.LeafSlots.{slots-are, kept-slots-name}
use Rattle.state_dag.proofs.StateDag.kept_slots.Goals as goal

pub returns-clause-is : goal.returns-clause-is
returns-clause-is c =
    c.kept.ensures ∙ kept-now c.self.inside c.self.invariant ∙ sym (kept-slots c.self.inside c.self.invariant)
    ∙ ap (λ (t : Table). map (λ (e : Entry). e.slot) t.entries) c.self.view_is

pub returns-clause-slots : goal.returns-clause-slots
returns-clause-slots c =
    let table = c.args.self.now in
    subst (λ ss. list_all (is_slot table) ss ≡ true) (sym (returns-clause-is c))
    (slots-are table table.entries (entries-found c.self.inside table c.self.invariant c.self.view_is))

pub returns-clause-kept : goal.returns-clause-kept
returns-clause-kept c = λ rs ks stands.
    let table = c.args.self.now in
    ap (map (id_at table)) (returns-clause-is c) ∙ kept-slots-name table rs ks stands (entries-found c.self.inside table c.self.invariant c.self.view_is)
