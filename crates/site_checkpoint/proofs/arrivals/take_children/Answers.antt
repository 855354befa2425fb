use Rattle.std.proofs.Common.{◌∙◌, ◌+◌, ◌&&◌, drop, sym, ap}
use Rattle.std.specs.List.{list_all}
use Rattle.state_dag.specs.Table.{id_at}
use Rattle.begin_rule.proofs.NamedStates.{named-next}
use Rattle.plain_checkpoint.specs.Checkpoints.{takes_child}
use Rattle.site_checkpoint.proofs.arrivals.take_children.Goals as goal

pub returns-then-not-takes_child : goal.returns-then-not-takes_child
returns-then-not-takes_child c = λ t stands xs are.
    let i = c.loop-slot.slot-index in
    let p = takes_child c.args.dag.now.limits t in
    let n = named-next (id_at c.args.dag.now) c.args.parents.now xs i (record { 0 = 0 }) are c.loop-slot-test.true in
    let told = c.takes_child.ensures t stands n.state n.named in
    sym (c.loop-slot.invariant t stands xs are
    ∙ (ap (list_all p) n.next ∙ ap (λ b. b && list_all p (drop (i + 1) xs)) (sym told ∙ c.if-not-takes_child.true)))

pub loop-slot-preserved : goal.loop-slot-preserved
loop-slot-preserved c = λ t stands xs are.
    let i = c.loop-slot.slot-index in
    let p = takes_child c.args.dag.now.limits t in
    let n = named-next (id_at c.args.dag.now) c.args.parents.now xs i (record { 0 = 0 }) are c.loop-slot-test.true in
    let told = c.takes_child.ensures t stands n.state n.named in
    c.loop-slot.invariant t stands xs are
    ∙ (ap (list_all p) n.next ∙ ap (λ b. b && list_all p (drop (i + 1) xs)) (sym told ∙ c.if-not-takes_child.false))
