use Rattle.std.proofs.Common.{◌∙◌, ◌≤◌, ℕ, ltb, length, get_or, List, IsTrue, sym, subst, arith}
use Rattle.std.proofs.lemmas.Bool.{ltb-true}
use Rattle.std.proofs.lemmas.List.{length-set, take_all}
use Rattle.state_dag.specs.declared.nodes.Node.{Node}
use Rattle.state_dag.specs.declared.leads.Gain.{Gain}
use Rattle.state_dag.specs.Nodes.{is_gaining}
use Rattle.state_dag.proofs.Passing.{all-at}
use Rattle.state_dag.proofs.NodeLists.{at-set}
use Rattle.state_dag.proofs.NodeRooms.{path-entry, placed-entries, room-more}
use Rattle.state_dag.proofs.rooms.make_path_room.Goals as goal

pub index_mut-requires : goal.index_mut-requires
index_mut-requires c =
    let none : Gain = record { at = record { 0 = 0 }; fork = record { 0 = 0 } } in
    let n = length c.args.nodes.now.items in
    let g = get_or c.args.gains.now c.loop-gain.gain-index none in
    let lt = ltb-true g.at.0 n (all-at (λ (h : Gain). ltb h.at.0 n) c.args.gains.now c.loop-gain.gain-index none c.requires (omega arith)) in
    let count = c.loop-gain.invariant.count in
    omega (arith, c.loop-gain.nodes.ok.0)

pub returns-in_err-reserve-clause-same : goal.returns-in_err-reserve-clause-same
returns-in_err-reserve-clause-same c =
    let none : Gain = record { at = record { 0 = 0 }; fork = record { 0 = 0 } } in
    let n = length c.args.nodes.now.items in
    let g = get_or c.args.gains.now c.loop-gain.gain-index none in
    let within = ltb-true g.at.0 n (all-at (λ (h : Gain). ltb h.at.0 n) c.args.gains.now c.loop-gain.gain-index none c.requires (omega arith)) in
    let count = c.loop-gain.invariant.count in
    let old = c.index_mut.result.now in
    let new : Node = record old { path = c.reserve.new.self } in
    placed-entries c.loop-gain.nodes.items g.at.0 old new (omega arith) c.index_mut.ensures.value
    (λ k. path-entry old c.reserve.new.self k c.reserve.ensures.same) ∙ c.loop-gain.invariant.same

pub loop-gain-preserved : goal.loop-gain-preserved
loop-gain-preserved c =
    let none : Gain = record { at = record { 0 = 0 }; fork = record { 0 = 0 } } in
    let n = length c.args.nodes.now.items in
    let gains = c.args.gains.now in
    let i = c.loop-gain.gain-index in
    let g = get_or gains i none in
    let within = ltb-true g.at.0 n (all-at (λ (h : Gain). ltb h.at.0 n) gains i none c.requires (omega arith)) in
    let count = c.loop-gain.invariant.count in
    let nodes = c.loop-gain.nodes.items in
    let old = c.index_mut.result.now in
    let new : Node = record old { path = c.reserve.new.self } in
    let room = c.in_ok-room.room in
    let stay = length-set nodes g.at.0 new in
    record {
      count = stay ∙ count;
      same = placed-entries nodes g.at.0 old new (omega arith) c.index_mut.ensures.value (λ k. path-entry old c.reserve.new.self k c.reserve.ensures.same)
          ∙ c.loop-gain.invariant.same;
      room = λ k d lt among.
          at-set (λ (m : Node). room ≤ m.path.room) nodes g.at.0 new k d (omega arith) (λ e. c.in_ok-reserve.ensures.room)
          (λ ne. c.loop-gain.invariant.room k d (omega arith) (room-more gains i none k (omega arith) among ne));
    }

pub returns-clause-room : goal.returns-clause-room
returns-clause-room c =
    let room = c.in_ok-room.ensures.is in
    λ k d lt among.
    subst (λ (n : ℕ). n ≤ (get_or c.loop-gain.nodes.items k d).path.room) room
    (c.loop-gain.invariant.room k d lt (subst (λ (gs : List Gain). IsTrue (is_gaining k gs))
    (sym (take_all c.loop-gain.gain-index c.args.gains.now (omega arith))) among))
