use Rattle.std.proofs.Common.{◌≡◌, ◌∙◌, get_or, ap, arith}
use Rattle.std.proofs.lemmas.List.{length-set}
use Rattle.tardis_base.specs.declared.ids.Slot.{Slot}
use Rattle.state_dag.specs.declared.nodes.Node.{Node}
use Rattle.state_dag.specs.Nodes.{TakesChild}
use Rattle.state_dag.proofs.NodeLists.{at-set, place-within}
use Rattle.state_dag.proofs.NodeRooms.{child-entry, placed-entries, read-at, among-before}
use Rattle.state_dag.proofs.rooms.make_child_room.Goals as goal

pub index_mut-requires : goal.index_mut-requires
index_mut-requires c =
    let lt = place-within c.args.nodes.now.items c.args.parents.now c.loop-parent.parent-index (record { 0 = 0 }) c.requires (omega arith) in
    let count = c.loop-parent.invariant.count in
    omega (arith, c.loop-parent.nodes.ok.0)

pub returns-in_err-make_room_at-clause-same : goal.returns-in_err-make_room_at-clause-same
returns-in_err-make_room_at-clause-same c =
    let none : Slot = record { 0 = 0 } in
    let i = c.loop-parent.parent-index in
    let p = (get_or c.args.parents.now i none).0 in
    let within = place-within c.args.nodes.now.items c.args.parents.now i none c.requires (omega arith) in
    let count = c.loop-parent.invariant.count in
    let old = c.index_mut.result.now in
    let new = c.make_room_at.new.node in
    let made = c.make_room_at.ensures in
    placed-entries c.loop-parent.nodes.items p old new (omega arith) c.index_mut.ensures.value
    (λ k. child-entry old new k made.rest made.children made.stand_ins) ∙ c.loop-parent.invariant.same

pub loop-parent-preserved : goal.loop-parent-preserved
loop-parent-preserved c =
    let none : Slot = record { 0 = 0 } in
    let i = c.loop-parent.parent-index in
    let parents = c.args.parents.now in
    let p = (get_or parents i none).0 in
    let within = place-within c.args.nodes.now.items parents i none c.requires (omega arith) in
    let count = c.loop-parent.invariant.count in
    let nodes = c.loop-parent.nodes.items in
    let old = c.index_mut.result.now in
    let new = c.make_room_at.new.node in
    let made = c.make_room_at.ensures in
    let stay = length-set nodes p new in
    let first = c.args.nodes.now.items in
    record {
      count = stay ∙ count;
      same = placed-entries nodes p old new (omega arith) c.index_mut.ensures.value (λ k. child-entry old new k made.rest made.children made.stand_ins)
          ∙ c.loop-parent.invariant.same;
      paths = λ k d.
          at-set (λ (m : Node). m.path ≡ (get_or first k d).path) nodes p new k d (omega arith)
          (λ e. ap (λ (m : Node). m.path) made.rest ∙ ap (λ (m : Node). m.path) (read-at nodes p old new (omega arith) c.index_mut.ensures.value k d e)
          ∙ c.loop-parent.invariant.paths k d)
          (λ ne. c.loop-parent.invariant.paths k d);
      room = λ k d lt among.
          at-set TakesChild nodes p new k d (omega arith) (λ e. c.in_ok-make_room_at.ensures.room)
          (λ ne. c.loop-parent.invariant.room k d (omega arith) (among-before parents i none k (omega arith) among ne));
    }
