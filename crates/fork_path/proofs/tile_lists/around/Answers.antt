use Rattle.std.proofs.Common.{◌+◌}
use Rattle.fork_path.proofs.TileLists.{filled-joined, filled-around}
use Rattle.fork_path.proofs.TileMerges.{around-keys-found, around-keys-new, around-pairs-found, around-pairs-new}
use Rattle.fork_path.proofs.tile_lists.around.Goals as goal

pub returns-then-is_at-clause-keys : goal.returns-then-is_at-clause-keys
returns-then-is_at-clause-keys c = λ up.
    let here = c.is_at.ensures.here c.if-is_at.true in
    around-keys-found c.args.tile c.args.tiles.now c.first_not_before-place.result up here.0 here.1

pub returns-then-is_at-clause-pairs : goal.returns-then-is_at-clause-pairs
returns-then-is_at-clause-pairs c = λ p.
    let here = c.is_at.ensures.here c.if-is_at.true in
    around-pairs-found c.args.tile c.joined.result _ c.args.tiles.now c.first_not_before-place.result p here.0 (c.joined.ensures.pairs p)

pub returns-else-is_at-clause-keys : goal.returns-else-is_at-clause-keys
returns-else-is_at-clause-keys c = λ up.
    around-keys-new c.args.tile c.args.tiles.now c.first_not_before-place.result up c.first_not_before-place.ensures.bound
    c.first_not_before-place.ensures.before c.first_not_before-place.ensures.behind
    (c.is_at.ensures.not_here c.if-is_at.false)

pub returns-else-is_at-clause-pairs : goal.returns-else-is_at-clause-pairs
returns-else-is_at-clause-pairs c = λ p. around-pairs-new c.args.tile c.args.tiles.now c.first_not_before-place.result p

pub returns-then-is_at-clause-filled : goal.returns-then-is_at-clause-filled
returns-then-is_at-clause-filled c = λ some all.
    let place = c.first_not_before-place.result in
    let sides = filled-around c.args.tiles.now place (place + 1) all in
    (sides.0, filled-joined _ c.args.tile c.joined.result c.joined.ensures.pairs some, sides.1)

pub returns-else-is_at-clause-filled : goal.returns-else-is_at-clause-filled
returns-else-is_at-clause-filled c = λ some all.
    let place = c.first_not_before-place.result in
    let sides = filled-around c.args.tiles.now place place all in
    (sides.0, some, sides.1)
