use Rattle.std.proofs.Common.{◌∙◌, false, Some, sym, ap}
use Rattle.std.specs.Option.{option_map_or}
use Rattle.state_dag.specs.Table.{is_entry_above}
use Rattle.state_dag.specs.Views.{entry_of}
use Rattle.state_dag.proofs.Places.{entry-found}
use Rattle.state_dag.proofs.leads.leads_first.Goals as goal

pub returns-in-Some : goal.returns-in-Some
returns-in-Some c =
    c.is_node_above.ensures 0 c.args.slot.0
    ∙ sym (c.in-Some.ensures c.args.slot
    ∙ ap (λ o. option_map_or (λ e. is_entry_above (entry_of 0 c.in-Some.child.now) e) o false)
    (entry-found c.args.nodes.now c.args.slot.0 c.index-nodes-slot.result c.requires
    ∙ ap (λ n. Some (entry_of c.args.slot.0 n)) (sym c.index-nodes-slot.is)))
