use Rattle.std.proofs.Common.{◌≡◌, ◌<◌, ◌≤◌, ◌^◌, ◌∙◌, length, take, get_or, sym, ap, subst, rules, arith, below_more}
use Rattle.std.specs.Prelude.{sum_by, count_ones}
use Rattle.std.proofs.lemmas.List.Sums.{sum_by_more}
use Rattle.std.proofs.lemmas.List.{take_all, get_or_default}
use Rattle.std.proofs.lemmas.Nat.{ones-le}
use Rattle.fork_path.specs.declared.tiles.Tile.{Tile}
use Rattle.fork_path.proofs.TileViews.{length-pairs_of, words-from}
use Rattle.fork_path.proofs.tile_lists.count_of.Goals as goal

pub loop-tile-preserved : goal.loop-tile-preserved
loop-tile-preserved c =
    let tiles = c.args.tiles.now in
    let i = c.loop-tile.tile-index in
    let none : Tile = record { forks = 0; branches = 0; bits = 0 } in
    let lt : i < length tiles = omega arith in
    let fits : (get_or tiles i none).bits < 2 ^ 64 = search rules in
    let few : count_ones (get_or tiles i none).bits ≤ 64 = ones-le 64 (get_or tiles i none).bits fits in
    let more = sum_by_more (λ t. count_ones t.bits) tiles i none lt in
    let sum = c.loop-tile.invariant.sum in
    let bound = c.loop-tile.invariant.bound in
    record {
      sum = omega (arith, more, sum);
      bound = omega (arith, few, bound);
      words =
          below_more (λ k. (get_or tiles k none).bits < 2 ^ 64) i c.loop-tile.invariant.words fits;
    }

pub returns : goal.returns
returns c = λ up.
    let tiles = c.args.tiles.now in
    let none : Tile = record { forks = 0; branches = 0; bits = 0 } in
    let done : c.loop-tile.tile-index ≡ length tiles = omega arith in
    c.loop-tile.invariant.sum ∙ ap (λ n. sum_by (λ (t : Tile). count_ones t.bits) (take n tiles)) done
    ∙ ap (sum_by (λ (t : Tile). count_ones t.bits)) (take_all (length tiles) tiles (omega arith))
    ∙ sym (length-pairs_of tiles up (words-from tiles (λ i d lt. subst (λ t. t.bits < 2 ^ 64) (get_or_default tiles i none d lt)
    (c.loop-tile.invariant.words i (omega arith)))))
