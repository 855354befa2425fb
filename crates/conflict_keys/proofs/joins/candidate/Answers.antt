use Rattle.std.proofs.Common.{◌≡◌, ◌∙◌, ◌++◌, None, IsTrue, IfSome, take, refl, sym, ap, subst, arith, take_all}
use Rattle.plain_dag.specs.Writers.{latest_writer}
use Rattle.plain_dag.specs.Conflicts.{latest_writers}
use Rattle.state_dag.specs.Table.{Table, id_at, is_slot}
use Rattle.conflict_keys.specs.Joins.{IsChosen, lower_slot}
use Rattle.conflict_keys.proofs.Walks.{named-next, named-length, named-are_kept, among-front}
use Rattle.conflict_keys.proofs.Choices.{listed, one-more, are-read, chosen-next}
use Rattle.conflict_keys.proofs.joins.candidate.Goals as goal

pub loop-state-init : goal.loop-state-init
loop-state-init c = record { slot = tt; chosen = λ rs ks stands xs are. record { writer = None; held = refl; choice = refl } }

pub lower-lowest-requires-clause-first : goal.lower-lowest-requires-clause-first
lower-lowest-requires-clause-first c = subst (λ (t : Table). IfSome c.loop-state.lowest (λ s. IsTrue (is_slot t s)))
    (sym c.dag.ensures) c.loop-state.invariant.slot

pub lower-lowest-requires-clause-second : goal.lower-lowest-requires-clause-second
lower-lowest-requires-clause-second c = subst (λ (t : Table). IfSome c.holder_at.result (λ s. IsTrue (is_slot t s)))
    (sym c.dag.ensures) c.holder_at.ensures.slot

pub loop-state-preserved : goal.loop-state-preserved
loop-state-preserved c =
    let table = c.args.store.now.table in
    let k = c.args.key.now in
    let i = c.loop-state.state-index in
    let lowest = c.loop-state.lowest in
    let holder = c.holder_at.result in
    let result = c.lower-lowest.result in
    let is : result ≡ lower_slot table lowest holder = c.lower-lowest.ensures.is ∙ ap (λ t. lower_slot t lowest holder) c.dag.ensures in
    record {
      slot = subst (λ (t : Table). IfSome result (λ s. IsTrue (is_slot t s))) c.dag.ensures c.lower-lowest.ensures.slot;
      chosen = λ rs ks stands xs are.
          let n = named-next (id_at table) c.args.states.now xs i (record { 0 = 0 }) are c.loop-state-test.true in
          let kept = named-are_kept table rs ks stands.table c.args.states.now xs are in
          let more = ap (latest_writers rs k) n.next ∙ one-more rs k (take i xs) n.state in
          let read = are-read rs ks stands.table.dag stands.table.shared k (take i xs) (λ x m. kept x (among-front xs i x m)) in
          subst (λ us. IsChosen table rs ks us result) (sym more)
          (subst (λ o. IsChosen table rs ks (latest_writers rs k (take i xs) ++ listed (latest_writer rs k n.state)) o) (sym is)
          (chosen-next table rs ks stands.table k (latest_writers rs k (take i xs)) read lowest holder n.state c.loop-state.invariant.slot
          c.holder_at.ensures.slot (kept n.state n.one)
          (c.loop-state.invariant.chosen rs ks stands xs are) (c.holder_at.ensures.holder rs ks stands n.state n.named)));
    }

pub returns-clause-chosen : goal.returns-clause-chosen
returns-clause-chosen c = λ rs ks stands xs are.
    let i = c.loop-state.state-index in
    let len = named-length (id_at c.args.store.now.table) c.args.states.now xs are in
    subst (λ ys. IsChosen c.args.store.now.table rs ks (latest_writers rs c.args.key.now ys) c.loop-state.lowest) (take_all i xs (omega arith))
    (c.loop-state.invariant.chosen rs ks stands xs are)
