use Rattle.std.proofs.Common.{◌∙◌, length, get_or, Some, ap, arith}
use Rattle.fork_path.specs.Tiles.{pairs_of}
use Rattle.state_dag.specs.Table.{Table}
use Rattle.state_dag.proofs.Known.{limits-parts}
use Rattle.state_dag.proofs.Memory.{entries-long}
use Rattle.state_dag.proofs.Lent.{lent-within, lent-is_slot, lent-node, parts-are}
use Rattle.state_dag.proofs.StateDag.entry.Goals as goal

pub offset_bounds-kept-place : goal.offset_bounds-kept-place
offset_bounds-kept-place c =
    let most = (limits-parts c.self.inside.limits c.self.invariant.valid).kept in
    let within = c.self.invariant.within in
    let long = entries-long c.self.inside c.self.invariant in
    let same = ap (λ (t : Table). length t.entries) c.self.view_is in
    let lt = c.requires in
    omega arith

pub bounds-kept-place : goal.bounds-kept-place
bounds-kept-place c = lent-within c.self.inside c.args.self.now c.self.invariant c.self.view_is c.kept.result.now c.kept.ensures c.args.place c.requires

pub node-node-requires : goal.node-node-requires
node-node-requires c =
    lent-is_slot c.self.inside c.args.self.now c.self.invariant c.self.view_is c.kept.result.now c.kept.ensures c.args.place c.requires (record { 0 = 0 })

pub returns-clause-entry : goal.returns-clause-entry
returns-clause-entry c =
    let n = c.node-node.result.now in
    let slot = get_or c.kept.result.now c.args.place (record { 0 = 0 }) in
    lent-node c.self.inside c.args.self.now c.self.invariant c.self.view_is c.kept.result.now c.kept.ensures c.args.place c.requires (record { 0 = 0 }) n
    c.node-node.ensures.entry
    ∙ ap (λ e. Some e) (parts-are slot n c.as_slice.result.now c.as_slice-2.result.now c.as_slice-3.result.now
    (pairs_of c.tiles.result.now) c.as_slice.ensures c.as_slice-2.ensures c.as_slice-3.ensures c.tiles.ensures.pairs)
