use Rattle.std.proofs.Common.{sym, ◌∙◌, ap}
use Rattle.std.proofs.lemmas.List.{get_or_default}
use Rattle.fork_path.specs.Tiles.{holds}
use Rattle.fork_path.proofs.TileLists.{holds-at, holds-no_key}
use Rattle.fork_path.proofs.tile_lists.tile_near.Goals as goal

pub returns-then-is_at-clause-pairs : goal.returns-then-is_at-clause-pairs
returns-then-is_at-clause-pairs c = λ up p h.
    let here = c.is_at.ensures.here c.if-is_at.true in
    let place = c.place_near-place.result in
    holds-at c.args.tile c.args.tiles.now place p up here.0 here.1 h
    ∙ ap (λ t. holds t p) (get_or_default c.args.tiles.now place c.args.tile _ here.0)

pub returns-else-is_at-clause-pairs : goal.returns-else-is_at-clause-pairs
returns-else-is_at-clause-pairs c = λ up p h.
    holds-no_key c.args.tile c.args.tiles.now p h (c.place_near-place.ensures up (c.is_at.ensures.not_here c.if-is_at.false))
    ∙ sym (c.cleared.ensures.pairs p)
