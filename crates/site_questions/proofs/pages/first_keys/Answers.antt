use Rattle.std.proofs.Common.{◌≡◌, ◌∙◌, ◌∷◌, [], ◌++◌, length, map, take, ap, sym, arith, take_all, length-append}
use Rattle.std.proofs.lemmas.List.{map_more, take-map}
use Rattle.site_questions.proofs.Orders.{Key}
use Rattle.site_questions.proofs.pages.first_keys.Goals as goal

pub loop-key-preserved : goal.loop-key-preserved
loop-key-preserved c =
    let i = c.loop-key.key-index in
    let keys = c.args.keys.now in
    let copy = c.in_ok-copy.field-0 in
    let counted = c.loop-key.invariant.counted in
    let few = c.loop-key.invariant.few in
    let other = c.if-len-eq-MAX_NAMED.false in
    let len = c.len.ensures in
    let longer = length-append c.loop-key.first (copy ∷ []) in
    record {
      counted = ap length c.in_ok-push.ensures.added ∙ omega arith;
      few = omega arith;
      front = c.in_ok-push.ensures.added ∙ (ap (λ ys. ys ++ copy ∷ []) c.loop-key.invariant.front
          ∙ (ap (λ k. map (λ (j : Key). j.now) (take i keys) ++ k ∷ []) (c.in_ok-copy.ensures ∙ ap (λ (j : Key). j.now) c.key-item.is)
          ∙ sym (map_more (λ (j : Key). j.now) keys i c.key-item.result c.loop-key-test.true)));
    }

pub returns-then-len-eq-MAX_NAMED : goal.returns-then-len-eq-MAX_NAMED
returns-then-len-eq-MAX_NAMED c =
    let keys = c.args.keys.now in
    let counted = c.loop-key.invariant.counted in
    let full = c.if-len-eq-MAX_NAMED.true in
    let len = c.len.ensures in
    let at : c.loop-key.key-index ≡ 256 = omega arith in
    c.loop-key.invariant.front ∙ (ap (λ n. map (λ (j : Key). j.now) (take n keys)) at ∙ sym (take-map (λ (j : Key). j.now) 256 keys))

pub returns : goal.returns
returns c =
    let keys = c.args.keys.now in
    let few = c.loop-key.invariant.few in
    let end = c.loop-key-test.false in
    c.loop-key.invariant.front ∙ (ap (map (λ (j : Key). j.now)) (take_all c.loop-key.key-index keys (omega arith) ∙ sym (take_all 256 keys (omega arith)))
    ∙ sym (take-map (λ (j : Key). j.now) 256 keys))
