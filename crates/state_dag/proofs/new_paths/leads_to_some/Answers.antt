use Rattle.std.proofs.Common.{◌∙◌, take, get_or, sym, arith}
use Rattle.std.specs.List.{list_any}
use Rattle.std.proofs.lemmas.Bool.{or_from}
use Rattle.std.proofs.lemmas.List.Folds.{list_any_more}
use Rattle.tardis_base.specs.declared.ids.Slot.{Slot}
use Rattle.state_dag.specs.Grown.{leads_first}
use Rattle.state_dag.specs.Nodes.{table_of}
use Rattle.state_dag.proofs.NodeLists.{place-within}
use Rattle.state_dag.proofs.new_paths.leads_to_some.Goals as goal

pub leads_first-requires : goal.leads_first-requires
leads_first-requires c = place-within c.args.nodes.now c.args.parents.now c.loop-parent.parent-index (record { 0 = 0 }) c.requires (omega arith)

pub loop-parent-preserved : goal.loop-parent-preserved
loop-parent-preserved c =
    let test = λ (p : Slot). leads_first (table_of c.args.nodes.now) p c.args.fork in
    let i = c.loop-parent.parent-index in
    let ps = c.args.parents.now in
    list_any_more test ps i (record { 0 = 0 }) (omega arith)
    ∙ or_from (list_any test (take i ps)) (test (get_or ps i (record { 0 = 0 }))) c.loop-parent.invariant
    (sym c.leads_first.ensures ∙ c.if-leads_first.false)
