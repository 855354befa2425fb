use Rattle.std.proofs.Common.{◌≡◌, true}
use Rattle.std.specs.List.{AllWithin}
use Rattle.fork_path.specs.Pairs.{is_pair_before}
use Rattle.fork_path.specs.Tiles.{key_of}
use Rattle.fork_path.proofs.tile_lists.first_not_before.Given as goal

abbrev pub invariant-loop-place : goal.invariant-loop-place
invariant-loop-place l = AllWithin (λ t. is_pair_before (key_of t) (key_of l.tile) ≡ true) l.tiles 0 l.place
