use Rattle.fork_path.proofs.TileLists.{filled-around}
use Rattle.fork_path.proofs.TileMerges.{merged-keys, merged-pairs, merged-filled}
use Rattle.fork_path.proofs.tile_lists.merged.Goals as goal

pub returns-clause-ascending : goal.returns-clause-ascending
returns-clause-ascending c = λ up up₂.
    merged-keys c.args.own.now c.args.others.now c.in_ok-tiles.tiles.items c.extend_from_slice.new.self.items c.add_merged.new.tiles.items
    c.common_front-front.result
    up up₂ c.common_front-front.ensures.same c.in_ok-tiles.ensures.items c.in_ok-extend_from_slice.ensures.items c.in_ok-add_merged.ensures.keys

pub returns-clause-pairs : goal.returns-clause-pairs
returns-clause-pairs c = λ p.
    merged-pairs c.args.own.now c.args.others.now c.in_ok-tiles.tiles.items c.extend_from_slice.new.self.items c.add_merged.new.tiles.items
    c.common_front-front.result
    c.common_front-front.ensures.same c.in_ok-tiles.ensures.items c.in_ok-extend_from_slice.ensures.items p (c.in_ok-add_merged.ensures.pairs p)

pub returns-clause-filled : goal.returns-clause-filled
returns-clause-filled c = λ own others.
    let front = c.common_front-front.result in
    c.in_ok-add_merged.ensures.filled
    (merged-filled c.args.own.now c.in_ok-tiles.tiles.items c.extend_from_slice.new.self.items front c.in_ok-tiles.ensures.items
    c.in_ok-extend_from_slice.ensures.items own)
    (filled-around c.args.own.now front front own).1 (filled-around c.args.others.now front front others).1
