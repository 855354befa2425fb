use Rattle.std.proofs.Common.{◌≡◌, ◌<◌, ◌||◌, ◌&&◌, bytes_eq, length, take, drop, get_or, sym, ap, ◌∙◌, arith}
use Rattle.tardis_base.specs.Keys.{is_key_among}
use Rattle.version_list.specs.Lists.{versions_in}
use Rattle.version_list.specs.Promoted.{moves}
use Rattle.version_list.specs.Joined.{joined_if}
use Rattle.version_list.proofs.Moves.{step-joined, step-next, step-moved, step-stayed, back-swapped}
use Rattle.version_list.proofs.histories.KeyLists.join_keys.Goals as goal

pub loop-place-preserved-then-join : goal.loop-place-preserved-then-join
loop-place-preserved-then-join g c =
    let arrival = g.A.Above.arrival_of c.args.dag.now in
    let x = c.index.result.now in
    let old = c.loop-place.self in
    let new = c.join.new.self in
    let xs = c.loop-place.keys.items in
    let i = c.loop-place.place in
    let lt : i < length xs = omega (arith, c.loop-place-test.true) in
    let here : get_or xs i x ≡ x = sym c.index.ensures in
    let moved = sym c.join.ensures.moved ∙ c.if-join.true in
    record {
      joined = λ k. step-next arrival c.args.from c.args.to c.requires.apart old new x c.join.ensures.joined c.join.ensures.others xs i lt here
          k ∙ c.loop-place.invariant.joined k;
      kept = λ k. step-moved arrival c.args.from c.args.to c.requires.apart old new x c.join.ensures.joined c.join.ensures.others xs i lt here
          moved k ∙ c.loop-place.invariant.kept k;
      within = omega (arith, lt);
      keys = c.join.ensures.keys ∙ c.loop-place.invariant.keys;
      order = c.join.ensures.order;
    }

pub loop-place-preserved : goal.loop-place-preserved
loop-place-preserved g c =
    let arrival = g.A.Above.arrival_of c.args.dag.now in
    let x = c.index.result.now in
    let old = c.loop-place.self in
    let new = c.join.new.self in
    let xs = c.loop-place.keys.items in
    let i = c.loop-place.place in
    let d = c.swap_remove.result in
    let lt : i < length xs = omega (arith, c.loop-place-test.true) in
    let here : get_or xs i x ≡ x = sym c.index.ensures in
    let stayed = sym c.join.ensures.moved ∙ c.if-join.false in
    let now = c.swap_remove.ensures.items in
    record {
      joined = λ k.
          ap (λ ys. joined_if (is_key_among k (drop i ys)) arrival c.args.from c.args.to (versions_in new k)) now
          ∙ ap (λ b. joined_if b arrival c.args.from c.args.to (versions_in new k)) (back-swapped (bytes_eq k) xs i d lt)
          ∙ step-joined arrival c.args.from c.args.to c.requires.apart old new x c.join.ensures.joined c.join.ensures.others xs i lt here k
          ∙ c.loop-place.invariant.joined k;
      kept = λ k.
          ap (λ ys. is_key_among k (take i ys) || (is_key_among k (drop i ys) && moves c.args.from c.args.to (versions_in new k))) now
          ∙ step-stayed arrival c.args.from c.args.to c.requires.apart old new x c.join.ensures.joined c.join.ensures.others xs i lt here stayed d k
          ∙ c.loop-place.invariant.kept k;
      within = omega (arith, lt, c.swap_remove.ensures.len, c.swap_remove.new.self.ok.0);
      keys = c.join.ensures.keys ∙ c.loop-place.invariant.keys;
      order = c.join.ensures.order;
    }
