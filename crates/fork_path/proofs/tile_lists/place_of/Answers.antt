use Rattle.std.proofs.Common.{rules}
use Rattle.std.proofs.lemmas.List.Sorted.{IsPartitionPoint-from_clause}
use Rattle.fork_path.specs.Pairs.{is_pair_before}
use Rattle.fork_path.specs.Tiles.{key_of}
use Rattle.fork_path.proofs.TileLists.{parted-tiles, point-of_keys}
use Rattle.fork_path.proofs.tile_lists.place_of.Goals as goal

pub returns-clause-place : goal.returns-clause-place
returns-clause-place c = λ up.
    point-of_keys c.args.tile c.args.tiles.now c.partition_point.result c.partition_point.ensures.bound
    (IsPartitionPoint-from_clause (λ t. is_pair_before (key_of t) (key_of c.args.tile)) _ _ c.partition_point.ensures.partitioned
    (parted-tiles c.args.tile c.args.tiles.now up) (λ a r q k. search rules))
