use Rattle.std.proofs.Common.{◌∙◌, ◌++◌, ◌∷◌, [], List, Option, map, Some, get_or, sym, ap, ap₂, arith}
use Rattle.std.proofs.lemmas.List.{map_push, map_more}
use Rattle.tardis_base.specs.declared.ids.StateId.{StateId}
use Rattle.tardis_base.specs.declared.ids.Slot.{Slot}
use Rattle.state_dag.specs.Table.{id_at}
use Rattle.state_dag.specs.Nodes.{table_of}
use Rattle.state_dag.proofs.NodeLists.{id-found, place-within}
use Rattle.state_dag.proofs.growth.ids_at.Goals as goal

pub bounds-nodes-slot : goal.bounds-nodes-slot
bounds-nodes-slot c = place-within c.args.nodes.now c.args.slots.now c.loop-slot.slot-index (record { 0 = 0 }) c.requires (omega arith)

pub loop-slot-preserved : goal.loop-slot-preserved
loop-slot-preserved c =
    let nodes = c.args.nodes.now in
    let slots = c.args.slots.now in
    let i = c.loop-slot.slot-index in
    let none : Slot = record { 0 = 0 } in
    let place = (get_or slots i none).0 in
    let node = c.index-nodes-slot.result in
    let some : StateId → Option StateId = λ x. Some x in
    let push : List (Option StateId) → Option StateId → List (Option StateId) = λ xs x. xs ++ x ∷ [] in
    ap (map some) c.in_ok-push.ensures.items
    ∙ map_push some c.loop-slot.ids.items (get_or nodes place node).id
    ∙ ap₂ push c.loop-slot.invariant (sym (id-found nodes place node (place-within nodes slots i none c.requires (omega arith))))
    ∙ sym (map_more (id_at (table_of nodes)) slots i none (omega arith))
