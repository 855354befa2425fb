use Rattle.std.proofs.Common.{◌≡◌, ℕ, ◌∙◌, true, subst, sym, ap}
use Rattle.fork_path.specs.Pairs.{are_ascending_pairs}
use Rattle.fork_path.specs.Tiles.{keys_of, some_holds}
use Rattle.fork_path.proofs.TilePaths.{seen-has, contained}
use Rattle.fork_path.proofs.ForkPath.contains.Goals as goal

pub returns : goal.returns
returns c =
    let pair : ℕ × ℕ = (c.args.fork, c.args.branch) in
    let tiles = c.as_slice-tiles.result.now in
    let up : are_ascending_pairs (keys_of tiles) ≡ true = subst (λ ts. are_ascending_pairs (keys_of ts) ≡ true) (sym c.as_slice-tiles.ensures.value)
    c.self.invariant.0 in
    contained tiles c.of-tile.result c.tile_near.result.1 pair c.is_within.result c.of-tile.ensures (c.tile_near.ensures.pairs up)
    c.is_within.ensures.inside c.is_within.ensures.outside
    ∙ ap (λ ts. some_holds ts pair) c.as_slice-tiles.ensures.value
    ∙ sym (seen-has c.self.inside.tiles.items c.args.self.now.pairs pair (ap (λ v. v.pairs) c.self.view_is))
