use Rattle.std.proofs.Common.{◌∙◌, ◌+◌, ◌≤◌, ◌<◌, ltb, length, take, drop, get_or, refl, sym, ap, subst, arith}
use Rattle.std.proofs.lemmas.Bool.{ltb-true}
use Rattle.std.proofs.lemmas.List.{length-set}
use Rattle.fork_path.specs.Pairs.{has_pair}
use Rattle.state_dag.specs.declared.nodes.Node.{Node}
use Rattle.state_dag.specs.declared.leads.Gain.{Gain}
use Rattle.state_dag.specs.Nodes.{gains_of, HasGained}
use Rattle.state_dag.proofs.Passing.{all-at}
use Rattle.state_dag.proofs.NodeLists.{at-set}
use Rattle.state_dag.proofs.NodeRooms.{read-at}
use Rattle.state_dag.proofs.NodeGrowth.{at-most-one-more, spare-own, spare-other, gained-more, gained-other}
use Rattle.state_dag.proofs.changes.grow_paths.Goals as goal

pub index_mut-requires : goal.index_mut-requires
index_mut-requires c =
    let none : Gain = record { at = record { 0 = 0 }; fork = record { 0 = 0 } } in
    let n = length c.args.nodes.now.items in
    let g = get_or c.args.gains.now c.loop-gain.gain-index none in
    let lt = ltb-true g.at.0 n (all-at (λ (h : Gain). ltb h.at.0 n) c.args.gains.now c.loop-gain.gain-index none c.requires.places (omega arith)) in
    let count = c.loop-gain.invariant.count in
    omega (arith, c.loop-gain.nodes.ok.0)

pub with_pair-requires : goal.with_pair-requires
with_pair-requires c =
    let none : Gain = record { at = record { 0 = 0 }; fork = record { 0 = 0 } } in
    let n = length c.args.nodes.now.items in
    let gains = c.args.gains.now in
    let i = c.loop-gain.gain-index in
    let p = (get_or gains i none).at.0 in
    let lt = ltb-true p n (all-at (λ (h : Gain). ltb h.at.0 n) gains i none c.requires.places (omega arith)) in
    let count = c.loop-gain.invariant.count in
    let old = c.index_mut.result.now in
    let room = c.loop-gain.invariant.spare p old (omega arith) in
    let own = spare-own gains i none (omega arith) p refl in
    let same = ap (λ (m : Node). m.path.room) c.index_mut.ensures.value in
    omega arith

pub loop-gain-preserved : goal.loop-gain-preserved
loop-gain-preserved c =
    let none : Gain = record { at = record { 0 = 0 }; fork = record { 0 = 0 } } in
    let n = length c.args.nodes.now.items in
    let gains = c.args.gains.now in
    let i = c.loop-gain.gain-index in
    let within : i < length gains = omega arith in
    let p = (get_or gains i none).at.0 in
    let placed = ltb-true p n (all-at (λ (h : Gain). ltb h.at.0 n) gains i none c.requires.places (omega arith)) in
    let count = c.loop-gain.invariant.count in
    let nodes = c.loop-gain.nodes.items in
    let first = c.args.nodes.now.items in
    let here : p < length nodes = omega arith in
    let old = c.index_mut.result.now in
    let path = c.with_pair.new.self in
    let new : Node = record old { path = path } in
    let made = c.with_pair.ensures in
    let longer = at-most-one-more (has_pair ((get_or gains i none).fork.0, 0) old.path.pairs) (length old.path.pairs) (length path.pairs) made.count in
    let stay = length-set nodes p new in
    record {
      count = stay ∙ count;
      len = c.loop-gain.invariant.len;
      capacity = c.loop-gain.invariant.capacity;
      each = λ k d lt.
          at-set (HasGained (take (i + 1) gains) k (get_or first k d)) nodes p new k d here
          (λ e.
          gained-more gains i none within k (sym e) (get_or first k d) old path
          (subst (HasGained (take i gains) k (get_or first k d)) (sym (read-at nodes p old new here c.index_mut.ensures.value k d e))
          (c.loop-gain.invariant.each k d (omega arith))) made.pairs made.ascending longer)
          (λ ne. gained-other gains i none within k (λ e. ne (sym e)) (get_or first k d) (get_or nodes k d) (c.loop-gain.invariant.each k d (omega arith)));
      spare = λ k d lt.
          let before = c.loop-gain.invariant.spare k d (omega arith) in
          at-set (λ (m : Node). gains_of k (drop (i + 1) gains) ≤ m.path.room) nodes p new k d here
          (λ e.
          let same = ap (λ (m : Node). m.path.room) (read-at nodes p old new here c.index_mut.ensures.value k d e) in
          let own = spare-own gains i none within k (sym e) in
          let room = made.room in
          omega arith)
          (λ ne. let other = spare-other gains i none within k (λ e. ne (sym e)) in omega arith);
    }
