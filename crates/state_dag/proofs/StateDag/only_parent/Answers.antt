use Rattle.std.proofs.Common.{◌∙◌, sym, ap}
use Rattle.std.specs.Option.{option_map, option_and_then}
use Rattle.state_dag.specs.Table.{Entry, only_of}
use Rattle.state_dag.proofs.StateDag.only_parent.Goals as goal

pub returns : goal.returns
returns c = c.only_parent.ensures ∙ sym (ap (λ o. option_and_then only_of (option_map (λ (e : Entry). e.parents) o)) c.node.ensures.entry)
