use Rattle.std.proofs.Common.{◌≡◌, ◌∙◌, true, Some, sym, ap, subst, arith}
use Rattle.std.specs.List.{list_all}
use Rattle.std.proofs.lemmas.Bool.{and_from}
use Rattle.state_dag.specs.Table.{Entry, Table, entry_at, is_slot, arrive_in_order}
use Rattle.state_dag.specs.Views.{entry_of}
use Rattle.state_dag.proofs.Memory.{slot-place, entry-kept}
use Rattle.state_dag.proofs.KeptEntries.{all-found}
use Rattle.state_dag.proofs.StateDag.node.Goals as goal

pub index-requires : goal.index-requires
index-requires c =
    let lt = slot-place c.self.inside c.self.invariant c.args.slot (subst (λ t. is_slot t c.args.slot ≡ true) (sym c.self.view_is) c.requires) in
    omega (arith, c.self.inside.nodes.ok.0)

pub returns-clause-entry : goal.returns-clause-entry
returns-clause-entry c =
    let k = c.args.slot.0 in
    subst (λ t. entry_at t c.args.slot ≡ Some (entry_of k c.index.result.now)) c.self.view_is
    (entry-kept c.self.inside c.self.invariant c.args.slot c.index.result.now (subst (λ t. is_slot t c.args.slot ≡ true) (sym c.self.view_is) c.requires)
    ∙ ap (λ n. Some (entry_of k n)) (sym c.index.ensures))

pub returns-clause-kept : goal.returns-clause-kept
returns-clause-kept c =
    and_from (is_slot c.args.self.now c.args.slot) (arrive_in_order c.args.self.now.entries) c.requires
    (subst (λ t. arrive_in_order t.entries ≡ true) c.self.view_is c.self.invariant.in_order)

pub returns-clause-stand_ins : goal.returns-clause-stand_ins
returns-clause-stand_ins c =
    let table = c.args.self.now in
    all-found (λ (e : Entry). list_all (is_slot table) e.stand_ins) table.entries c.args.slot.0 (entry_of c.args.slot.0 c.index.result.now)
    (returns-clause-entry c)
    (subst (λ (t : Table). list_all (λ (e : Entry). list_all (is_slot t) e.stand_ins) t.entries ≡ true) c.self.view_is c.self.invariant.stand_ins)
