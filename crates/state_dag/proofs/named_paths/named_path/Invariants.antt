use Rattle.std.proofs.Common.{◌≡◌, take}
use Rattle.std.specs.List.{flat_map}
use Rattle.state_dag.specs.Views.{entries_in, named_branches}
use Rattle.state_dag.proofs.named_paths.named_path.Given as goal

abbrev pub invariant-loop-slot : goal.invariant-loop-slot
invariant-loop-slot l = l.named.items ≡ flat_map (named_branches l.path.pairs) (entries_in l.nodes (take l.slot-index l.slots))
