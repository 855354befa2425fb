use Rattle.std.proofs.Common.{◌≡◌, ◌∙◌, ◌<◌, ◌≤◌, ℕ, List, length, eqb, find, Option, Some, None, sym, ap, arith}
use Rattle.std.specs.Option.{MatchOption, option_map, option_copied}
use Rattle.std.specs.List.{HoldsAt}
use denote.Bor.{Bor}
use Rattle.state_dag.specs.declared.nodes.Node.{Node}
use Rattle.state_dag.specs.Views.{entry_of, entries_from}
use Rattle.state_dag.proofs.Places.{entry-found, find-beyond}
use Rattle.state_dag.proofs.nodes.node_at.Goals as goal

node-found : (ns : List Node) (k : ℕ) (r : Option (Bor Node)) → MatchOption r (length ns ≤ k) (λ x. (k < length ns) × HoldsAt (λ y. x.now ≡ y) ns k) →
    option_map (entry_of k) (option_copied r) ≡ find (λ e. eqb e.slot.0 k) (entries_from 0 ns)
node-found ns k None h = sym (find-beyond ns 0 k (omega arith))
node-found ns k (Some x) h = ap (λ n. Some (entry_of k n)) (h.1 x.now) ∙ sym (entry-found ns k x.now h.0)

pub returns : goal.returns
returns c = node-found c.args.nodes.now c.args.slot.0 c.get.result c.get.ensures.lookup.3
