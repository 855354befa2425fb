use Rattle.std.proofs.Common.{◌∙◌, Bool, ◌&&◌, sym, ap}
use Rattle.std.proofs.lemmas.Bool.{le-leb}
use Rattle.fork_path.specs.Pairs.{has_pairs}
use Rattle.state_dag.proofs.nodes.is_node_above.Goals as goal

pub returns-then-a-b : goal.returns-then-a-b
returns-then-a-b c = λ p q.
    let a = c.args.a.now in
    let b = c.args.b.now in
    c.includes.ensures ∙ sym (ap (λ (t : Bool). t && has_pairs b.path.pairs a.path.pairs) (le-leb a.arrival b.arrival c.if-a-b.true))
