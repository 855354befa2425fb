use Rattle.std.proofs.Common.{refl, arith}
use Rattle.fork_path.proofs.TileBits.{without-other, without-holds}
use Rattle.fork_path.proofs.tiles.Tile.without.Goals as goal

pub returns-then-self-fork-clause-pairs : goal.returns-then-self-fork-clause-pairs
returns-then-self-fork-clause-pairs c = without-other c.args.self c.args.fork (λ e. let other = c.if-self-fork.true in omega (arith, e, other))

pub returns-clause-pairs : goal.returns-clause-pairs
returns-clause-pairs c =
    let forks = c.if-self-fork.false in
    without-holds c.args.self c.args.fork c.place_of_bit.result c.place_of_bit-2.result (omega (arith, forks)) c.place_of_bit.ensures.place
    c.place_of_bit-2.ensures.place _ refl
