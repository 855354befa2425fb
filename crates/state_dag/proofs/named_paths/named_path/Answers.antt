use Rattle.std.proofs.Common.{◌∙◌, ◌++◌, ◌<◌, [], ℕ, List, length, take, get_or, sym, ap, arith}
use Rattle.std.specs.List.{flat_map}
use Rattle.std.proofs.lemmas.List.{take_more, flat_map_more}
use Rattle.tardis_base.specs.declared.ids.StateId.{StateId}
use Rattle.tardis_base.specs.declared.ids.Slot.{Slot}
use Rattle.state_dag.specs.declared.nodes.Node.{Node}
use Rattle.state_dag.specs.Table.{Entry}
use Rattle.state_dag.specs.Views.{entry_of, entries_in, named_branches}
use Rattle.state_dag.proofs.KeptEntries.{entries-put}
use Rattle.state_dag.proofs.Memory.{take-all}
use Rattle.std.proofs.Common.{ltb}
use Rattle.state_dag.proofs.NodeLists.{place-within}
use Rattle.state_dag.proofs.named_paths.named_path.Goals as goal

pub loop-slot-preserved : goal.loop-slot-preserved
loop-slot-preserved c =
    let nodes = c.args.nodes.now in
    let slots = c.args.slots.now in
    let i = c.loop-slot.slot-index in
    let none : Slot = record { 0 = 0 } in
    let slot = get_or slots i none in
    let node = c.index-nodes-slot.result in
    let f : Entry → List (StateId × ℕ) = named_branches c.args.path.now.pairs in
    let before = entries_in nodes (take i slots) in
    let lt : i < length slots = omega arith in
    let placed = take-all (λ s. ltb s.0 (length nodes)) i slots c.requires in
    c.in_ok-add_branches.ensures ∙ ap (λ l. l ++ f (entry_of slot.0 node)) c.loop-slot.invariant
    ∙ ap (λ (n : Node). flat_map f before ++ f (entry_of slot.0 n)) c.index-nodes-slot.is
    ∙ flat_map_more f [] before (entry_of slot.0 (get_or nodes slot.0 node))
    ∙ ap (flat_map f) (sym (entries-put nodes node (take i slots) slot placed (place-within nodes slots i none c.requires lt))
    ∙ ap (entries_in nodes) (sym (take_more slots i none lt)))
