use Rattle.std.proofs.Common.{◌∙◌, ◌||◌, sym, ap, arith}
use Rattle.fork_path.specs.Pairs.{has_pair}
use Rattle.state_dag.specs.Grown.{path_at}
use Rattle.state_dag.specs.Nodes.{table_of}
use Rattle.state_dag.proofs.Passing.{or-more}
use Rattle.state_dag.proofs.NodeLists.{path-found, place-within}
use Rattle.state_dag.proofs.new_paths.unite_paths.Goals as goal

pub bounds-nodes-parent : goal.bounds-nodes-parent
bounds-nodes-parent c = place-within c.args.nodes.now c.args.parents.now c.loop-parent.parent-index (record { 0 = 0 }) c.requires (omega arith)

pub loop-parent-preserved : goal.loop-parent-preserved
loop-parent-preserved c =
    let nodes = c.args.nodes.now in
    let node = c.index-nodes-parent.result in
    record {
      pairs = λ pair.
          or-more (λ p. has_pair pair (path_at (table_of nodes) p)) c.args.parents.now c.loop-parent.parent-index (record { 0 = 0 })
          (has_pair pair c.args.path.now.pairs)
          (has_pair pair c.loop-parent.path.pairs) (has_pair pair c.unite.new.self.pairs) (omega arith) (c.loop-parent.invariant.pairs pair)
          (c.in_ok-unite.ensures.pairs pair
          ∙ ap (λ qs. has_pair pair qs || has_pair pair c.loop-parent.path.pairs)
          (sym (path-found nodes _ node (place-within nodes c.args.parents.now c.loop-parent.parent-index (record { 0 = 0 }) c.requires (omega arith)))));
      ascending = λ up. c.unite.ensures.ascending;
    }
