use Rattle.std.proofs.Common.{◌≡◌, ◌∙◌, ◌∷◌, [], ◌++◌, length, take, ap, sym, arith, take_all, length-append}
use Rattle.std.proofs.lemmas.Option.{same_Some}
use Rattle.state_dag.specs.Table.{id_at}
use Rattle.branch_region.proofs.Named.{named-next, named-length}
use Rattle.fork_points.proofs.first_of.Goals as goal

pub loop-slot-preserved : goal.loop-slot-preserved
loop-slot-preserved c =
    let i = c.loop-slot.slot-index in
    let counted = c.loop-slot.invariant.counted in
    let few = c.loop-slot.invariant.few in
    let other = c.if-len-eq-MAX_NAMED.false in
    let len = c.len.ensures in
    let longer = length-append c.loop-slot.first (c.id_of.result ∷ []) in
    record {
      counted = ap length c.in_ok-push.ensures.added ∙ omega arith;
      few = omega arith;
      front = λ xs are.
          let n = named-next (id_at c.args.dag.now) c.args.slots.now xs i (record { 0 = 0 }) are c.loop-slot-test.true in
          let same : c.id_of.result ≡ n.state = same_Some c.id_of.result n.state (sym c.id_of.ensures.is ∙ n.named) in
          c.in_ok-push.ensures.added ∙ (ap (λ ys. ys ++ c.id_of.result ∷ []) (c.loop-slot.invariant.front xs are)
          ∙ (ap (λ x. take i xs ++ x ∷ []) same ∙ sym n.next));
    }

pub returns-then-len-eq-MAX_NAMED : goal.returns-then-len-eq-MAX_NAMED
returns-then-len-eq-MAX_NAMED c = λ xs are.
    let counted = c.loop-slot.invariant.counted in
    let full = c.if-len-eq-MAX_NAMED.true in
    let len = c.len.ensures in
    let at : c.loop-slot.slot-index ≡ 256 = omega arith in
    c.loop-slot.invariant.front xs are ∙ ap (λ n. take n xs) at

pub returns : goal.returns
returns c = λ xs are.
    let len = named-length (id_at c.args.dag.now) c.args.slots.now xs are in
    let few = c.loop-slot.invariant.few in
    let end = c.loop-slot-test.false in
    let at = c.loop-slot.auto.slot-index-end in
    c.loop-slot.invariant.front xs are ∙ (take_all c.loop-slot.slot-index xs (omega arith) ∙ sym (take_all 256 xs (omega arith)))
