use Rattle.std.proofs.Common.{◌≡◌, length, true, subst, arith}
use Rattle.std.specs.List.{AllWithin}
use Rattle.fork_path.specs.declared.tiles.Tile.{Tile}
use Rattle.fork_path.specs.Pairs.{is_pair_before}
use Rattle.fork_path.specs.Tiles.{key_of}
use Rattle.fork_path.proofs.TileLists.{within-keys}
use Rattle.fork_path.proofs.tile_lists.first_not_before.Goals as goal

pub returns-then-not-is_before-clause-before : goal.returns-then-not-is_before-clause-before
returns-then-not-is_before-clause-before c =
    within-keys (λ k. is_pair_before k (key_of c.args.tile) ≡ true) c.args.tile c.args.tiles.now 0 c.loop-place.place (omega arith) c.loop-place.invariant

pub returns-clause-before : goal.returns-clause-before
returns-clause-before c =
    let tiles = c.args.tiles.now in
    let done : c.loop-place.place ≡ length tiles = omega arith in
    within-keys (λ k. is_pair_before k (key_of c.args.tile) ≡ true) c.args.tile tiles 0 (length tiles) (omega arith)
    (subst (λ n. AllWithin (λ (t : Tile). is_pair_before (key_of t) (key_of c.args.tile) ≡ true) tiles 0 n) done c.loop-place.invariant)
