use Rattle.std.proofs.Common.{◌≡◌, ◌<◌, ◌+◌, ◌||◌, ◌&&◌, ℕ, List, length, sym, ap, ap₂, ◌∙◌, arith}
use Rattle.version_list.specs.Lists.{versions_in}
use Rattle.version_list.specs.Notes.{Chunks, is_key_in}
use Rattle.version_list.specs.Promoted.{moves}
use Rattle.version_list.specs.Joined.{joined_if}
use Rattle.version_list.proofs.Chunks.{in-first, one-fewer}
use Rattle.version_list.proofs.Moves.{joined-step, kept-step}
use Rattle.version_list.proofs.histories.KeyLists.join_chunks.Goals as goal

pub loop-preserved : goal.loop-preserved
loop-preserved g c =
    let arrival = g.A.Above.arrival_of c.args.dag.now in
    let from = c.args.from in
    let to = c.args.to in
    let old = c.loop.self in
    let new = c.join_first.new.self in
    let first = c.take_first-first.result in
    let rest = c.take_first-first.new.chunks in
    let moved = c.loop.moved in
    let split = λ (k : List ℕ). in-first k c.loop.rest ∙ ap₂ (λ (xs ys : Chunks). is_key_in k xs || is_key_in k ys) (sym c.take_first-first.ensures.first)
    (sym c.take_first-first.ensures.rest) in
    let some : 0 < length c.loop.rest = omega (arith, c.loop.invariant.left, c.loop-test.true, c.len-end.ensures.value) in
    let fewer : length rest + 1 ≡ length c.loop.rest = ap (λ (xs : Chunks). length xs + 1) c.take_first-first.ensures.rest ∙ one-fewer c.loop.rest some in
    let one = c.join_first.ensures.one in
    record {
      joined = λ k.
          joined-step arrival from to c.requires.apart (is_key_in k first) (is_key_in k rest) (versions_in old k) (versions_in new k)
          (c.join_first.ensures.joined k)
          ∙ ap (λ b. joined_if b arrival from to (versions_in old k)) (sym (split k))
          ∙ c.loop.invariant.joined k;
      kept = λ k.
          ap (λ b. b || (is_key_in k rest && moves from to (versions_in new k)))
          (c.keep.ensures.keys k ∙ ap (λ b. is_key_in k moved || b) (c.join_first.ensures.kept k))
          ∙ kept-step arrival from to c.requires.apart (is_key_in k moved) (is_key_in k first) (is_key_in k rest) (versions_in old k) (versions_in new k)
          (c.join_first.ensures.joined k)
          ∙ ap (λ b. is_key_in k moved || (b && moves from to (versions_in old k))) (sym (split k))
          ∙ c.loop.invariant.kept k;
      left = omega (arith, fewer, c.loop.invariant.left);
      count = omega (arith, fewer, one, c.keep.ensures.count, c.loop.invariant.count);
      full = c.keep.ensures.full c.loop.invariant.full;
      keys = c.join_first.ensures.keys ∙ c.loop.invariant.keys;
      order = c.join_first.ensures.order;
    }
