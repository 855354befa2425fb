use Rattle.std.proofs.Common.{take, sym, subst, arith, take_all}
use Rattle.state_dag.specs.Table.{id_at}
use Rattle.branch_region.specs.Walks.{waits_at, AreWaiting}
use Rattle.branch_region.proofs.Named.{named-next, named-length}
use Rattle.branch_region.proofs.Waiting.{waiting-next}
use Rattle.branch_region.proofs.walks.all_waiting.Goals as goal

pub loop-state-preserved : goal.loop-state-preserved
loop-state-preserved c = record {
  slots = c.in_ok-put.ensures.slots c.loop-state.invariant.slots;
  are = λ rs ks stands xs are.
      let table = c.args.dag.now in
      let n = named-next (id_at table) c.args.states.now xs c.loop-state.state-index (record { 0 = 0 }) are c.loop-state-test.true in
      subst (λ ys. AreWaiting table rs ys (waits_at c.put.new.waiting)) (sym n.next)
      (waiting-next table rs ks stands (waits_at c.loop-state.waiting) (waits_at c.put.new.waiting) _ n.state n.named c.in_ok-put.ensures.put
      (take c.loop-state.state-index xs) (c.loop-state.invariant.are rs ks stands xs are));
}

pub returns-clause-waiting : goal.returns-clause-waiting
returns-clause-waiting c = λ rs ks stands xs are.
    let len = named-length (id_at c.args.dag.now) c.args.states.now xs are in
    subst (λ ys. AreWaiting c.args.dag.now rs ys (waits_at c.loop-state.waiting)) (take_all c.loop-state.state-index xs (omega arith))
    (c.loop-state.invariant.are rs ks stands xs are)
