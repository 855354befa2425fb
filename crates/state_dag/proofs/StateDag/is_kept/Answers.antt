use Rattle.std.proofs.Common.{◌∙◌, Option, Some, None, sym, ap}
use Rattle.std.specs.Option.{option_map, option_copied}
use denote.Bor.{Bor}
use Rattle.state_dag.specs.declared.nodes.Node.{Node}
use Rattle.state_dag.specs.Table.{entry_at}
use Rattle.state_dag.specs.Views.{entry_of}
use Rattle.state_dag.specs.Nodes.{table_of}
use Rattle.state_dag.proofs.Memory.{kept-now}
use Rattle.state_dag.proofs.Calls.{slots-ascend}
use Rattle.state_dag.proofs.KeptTests.{found-nowhere, found-there}
use Rattle.state_dag.proofs.StateDag.is_kept.Goals as goal

pub returns-in_default : goal.returns-in_default
returns-in_default c =
    found-nowhere c.self.inside c.self.invariant c.args.self.now c.self.view_is c.args.slot c.deref.result.now c.deref.ensures.value
    (ap (λ (o : Option (Bor Node)). option_map (entry_of c.args.slot.0) (option_copied o)) (sym c.in_default.is) ∙ c.node_at.ensures)

pub first_from-place-requires : goal.first_from-place-requires
first_from-place-requires c =
    slots-ascend c.self.inside c.self.invariant c.deref-2.result.now c.kept-kept.result.now c.deref-2.ensures.value
    (c.kept-kept.ensures ∙ kept-now c.self.inside c.self.invariant)

pub returns-in-Some-slot_at : goal.returns-in-Some-slot_at
returns-in-Some-slot_at c =
    let found = ap (λ (o : Option (Bor Node)). option_map (entry_of c.args.slot.0) (option_copied o)) (sym c.in-Some.is) ∙ c.node_at.ensures
    ∙ ap (λ ns. entry_at (table_of ns) c.args.slot) (c.deref.ensures.value ∙ sym c.deref-2.ensures.value) in
    c.eq.ensures ∙ found-there c.self.inside c.self.invariant c.args.self.now c.self.view_is c.args.slot c.deref-2.result.now c.kept-kept.result.now c.in-Some.node.now
    c.first_from-place.result c.deref-2.ensures.value c.kept-kept.ensures found c.first_from-place.ensures.before c.first_from-place.ensures.from
    (Some c.in-Some-slot_at.found) (sym c.in-Some-slot_at.is ∙ c.slot_at.ensures)

pub returns-in-None : goal.returns-in-None
returns-in-None c =
    let found = ap (λ (o : Option (Bor Node)). option_map (entry_of c.args.slot.0) (option_copied o)) (sym c.in-Some.is) ∙ c.node_at.ensures
    ∙ ap (λ ns. entry_at (table_of ns) c.args.slot) (c.deref.ensures.value ∙ sym c.deref-2.ensures.value) in
    found-there c.self.inside c.self.invariant c.args.self.now c.self.view_is c.args.slot c.deref-2.result.now c.kept-kept.result.now c.in-Some.node.now
    c.first_from-place.result c.deref-2.ensures.value c.kept-kept.ensures found c.first_from-place.ensures.before c.first_from-place.ensures.from
    None (sym c.in-None.is ∙ c.slot_at.ensures)
