use Rattle.std.proofs.Common.{◌≡◌, ◌∙◌, true, IsTrue, IfSome, take, refl, sym, ap, subst, arith, take_all}
use Rattle.std.proofs.lemmas.Bool.{and_from, both_ways, false_from_ne_true}
use Rattle.plain_dag.specs.Writers.{latest_writer, are_above}
use Rattle.plain_dag.specs.Conflicts.{latest_writers}
use Rattle.state_dag.specs.Table.{Table, id_at, is_slot}
use Rattle.conflict_keys.specs.Joins.{is_above_or_none}
use Rattle.conflict_keys.proofs.Walks.{named-next, named-length, named-are_kept}
use Rattle.conflict_keys.proofs.Choices.{listed, more-above, all-then-one, are-read, above-next}
use Rattle.conflict_keys.proofs.joins.is_below_all.Goals as goal

pub loop-state-init : goal.loop-state-init
loop-state-init c = λ rs ks stands xs are w m named. refl

pub is_above_or_none-requires-clause-slot : goal.is_above_or_none-requires-clause-slot
is_above_or_none-requires-clause-slot c = subst (λ (t : Table). IfSome c.holder_at.result (λ s. IsTrue (is_slot t s)))
    (sym c.dag.ensures) c.holder_at.ensures.slot

pub is_above_or_none-requires-clause-other : goal.is_above_or_none-requires-clause-other
is_above_or_none-requires-clause-other c = subst (λ (t : Table). IsTrue (is_slot t c.args.lowest)) (sym c.dag.ensures) c.requires.lowest

pub returns-then-not-is_above_or_none : goal.returns-then-not-is_above_or_none
returns-then-not-is_above_or_none c = λ rs ks stands xs are w m named.
    let table = c.args.store.now.table in
    let k = c.args.key.now in
    let i = c.loop-state.state-index in
    let n = named-next (id_at table) c.args.states.now xs i (record { 0 = 0 }) are c.loop-state-test.true in
    let kept = named-are_kept table rs ks stands.table c.args.states.now xs are in
    let read = are-read rs ks stands.table.dag stands.table.shared k xs kept in
    let told = above-next table rs ks stands.table k (latest_writers rs k xs) read w (read w m) c.args.lowest named c.holder_at.result n.state
    c.holder_at.ensures.slot (kept n.state n.one) (c.holder_at.ensures.holder rs ks stands n.state n.named) in
    let asked : c.is_above_or_none.result ≡ are_above rs (listed (latest_writer rs k n.state)) w = c.is_above_or_none.ensures
    ∙ (ap (λ t. is_above_or_none t c.holder_at.result c.args.lowest) c.dag.ensures ∙ told) in
    sym (false_from_ne_true (are_above rs (latest_writers rs k xs) w)
    (λ all. both_ways c.is_above_or_none.result c.if-not-is_above_or_none.true (asked ∙ all-then-one rs k w xs n.state n.one all)))

pub loop-state-preserved : goal.loop-state-preserved
loop-state-preserved c = λ rs ks stands xs are w m named.
    let table = c.args.store.now.table in
    let k = c.args.key.now in
    let i = c.loop-state.state-index in
    let n = named-next (id_at table) c.args.states.now xs i (record { 0 = 0 }) are c.loop-state-test.true in
    let kept = named-are_kept table rs ks stands.table c.args.states.now xs are in
    let read = are-read rs ks stands.table.dag stands.table.shared k xs kept in
    let told = above-next table rs ks stands.table k (latest_writers rs k xs) read w (read w m) c.args.lowest named c.holder_at.result n.state
    c.holder_at.ensures.slot (kept n.state n.one) (c.holder_at.ensures.holder rs ks stands n.state n.named) in
    let asked : c.is_above_or_none.result ≡ are_above rs (listed (latest_writer rs k n.state)) w = c.is_above_or_none.ensures
    ∙ (ap (λ t. is_above_or_none t c.holder_at.result c.args.lowest) c.dag.ensures ∙ told) in
    ap (λ ys. are_above rs (latest_writers rs k ys) w) n.next
    ∙ (more-above rs k w (take i xs) n.state
    ∙ and_from (are_above rs (latest_writers rs k (take i xs)) w) (are_above rs (listed (latest_writer rs k n.state)) w)
    (c.loop-state.invariant rs ks stands xs are w m named) (sym asked ∙ c.if-not-is_above_or_none.false))

pub returns : goal.returns
returns c = λ rs ks stands xs are w m named.
    let i = c.loop-state.state-index in
    let len = named-length (id_at c.args.store.now.table) c.args.states.now xs are in
    sym (subst (λ ys. are_above rs (latest_writers rs c.args.key.now ys) w ≡ true) (take_all i xs (omega arith))
    (c.loop-state.invariant rs ks stands xs are w m named))
