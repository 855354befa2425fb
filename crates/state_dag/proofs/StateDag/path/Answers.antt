use Rattle.std.proofs.Common.{◌≡◌, IfOk, flat_map, ap, ap₂, subst, ◌∙◌}
use Rattle.state_dag.specs.Table.{Table}
use Rattle.state_dag.specs.Views.{entry_of, entries_in, named_branches}
use Rattle.state_dag.specs.Nodes.{are_places}
use Rattle.state_dag.proofs.LeafSlots.{AreFound}
use Rattle.state_dag.proofs.Standing.{shown}
use Rattle.state_dag.proofs.Memory.{kept-placed, found-all}
use Rattle.state_dag.proofs.Calls.{kept-are}
use Rattle.state_dag.proofs.NamedPaths.{named-is_path}
use Rattle.state_dag.proofs.StateDag.path.Goals as goal

pub named_path-requires : goal.named_path-requires
named_path-requires c =
    let a = c.self.inside in
    let slots = kept-are a c.self.invariant c.args.self.now c.kept_slots.result.now c.self.view_is c.kept_slots.ensures.is in
    ap₂ are_places c.as_slice.ensures.value slots ∙ kept-placed a c.self.invariant

pub returns : goal.returns
returns c = λ rs ks stands x named.
    let a = c.self.inside in
    let table = c.args.self.now in
    let shows = shown table rs ks stands c.args.slot (entry_of c.args.slot.0 c.node.result.now) x c.node.ensures.entry named in
    let path = c.node.result.now.path.pairs in
    let slots = kept-are a c.self.invariant table c.kept_slots.result.now c.self.view_is c.kept_slots.ensures.is in
    let entries : entries_in c.as_slice.result.now c.kept_slots.result.now ≡ table.entries = ap₂ entries_in c.as_slice.ensures.value slots
    ∙ ap (λ (t : Table). t.entries) c.self.view_is in
    let found : AreFound table table.entries = subst (λ (t : Table). AreFound t t.entries) c.self.view_is (found-all a c.self.invariant) in
    subst (λ list. IfOk c.named_path.result (λ p. p ≡ list))
    (ap (flat_map (named_branches path)) entries ∙ named-is_path table rs ks x path stands shows.has_path found) c.named_path.ensures
