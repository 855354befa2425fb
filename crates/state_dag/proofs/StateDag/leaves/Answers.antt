use Rattle.std.proofs.Common.{◌∙◌, Some, length, ap, arith}
use Rattle.std.proofs.lemmas.List.{length-map}
use Rattle.plain_dag.specs.Forks.{leaves}
use Rattle.state_dag.specs.Table.{Table, id_at}
use Rattle.state_dag.specs.Held.{seen}
use Rattle.state_dag.proofs.Following.{childless_slots}
use Rattle.state_dag.proofs.Known.{limits-parts}
use Rattle.state_dag.proofs.Memory.{entries-long}
use Rattle.state_dag.proofs.Calls.{entries-found}
use Rattle.state_dag.proofs.LeafSlots.{few-leaves, leaf-slots-name-leaves}
use Rattle.state_dag.proofs.StateDag.leaves.Goals as goal

pub overflow_cast-result : goal.overflow_cast-result
overflow_cast-result c =
    let most = (limits-parts c.self.inside.limits c.self.invariant.valid).kept in
    let within = c.self.invariant.within in
    let long = entries-long c.self.inside c.self.invariant in
    let few = few-leaves (seen c.self.inside).entries in
    let are = ap length c.self.invariant.childless in
    let len = c.len.ensures in
    omega (arith, c.self.inside.leaves.ok.0)

pub returns : goal.returns
returns c = λ rs ks stands.
    let table = c.args.self.now in
    let slots = childless_slots table.entries in
    let named = ap length (leaf-slots-name-leaves table rs ks stands (entries-found c.self.inside table c.self.invariant c.self.view_is)) in
    let one = length-map slots (id_at table) in
    let two = length-map (leaves rs) (λ x. Some x) in
    let are = ap length (c.self.invariant.childless ∙ ap (λ (t : Table). childless_slots t.entries) c.self.view_is) in
    let len = c.len.ensures in
    omega (arith, c.self.inside.leaves.ok.0)
