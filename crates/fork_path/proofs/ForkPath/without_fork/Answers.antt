use Rattle.std.proofs.Common.{◌∙◌, ◌^◌, min, ap, sym, refl, arith}
use Rattle.fork_path.proofs.TileViews.{ascending-pairs_of}
use Rattle.fork_path.proofs.TilePaths.{dropped-pairs, whole-room}
use Rattle.fork_path.proofs.ForkPath.without_fork.Goals as goal

pub returns-clause-pairs : goal.returns-clause-pairs
returns-clause-pairs c =
    dropped-pairs c.self.inside.tiles.items c.drop_fork.new.tiles.items c.args.fork c.args.self.now.pairs (ap (λ v. v.pairs) c.self.view_is)
    (c.drop_fork.ensures.pairs c.self.invariant.0)

pub returns-clause-ascending : goal.returns-clause-ascending
returns-clause-ascending c = ascending-pairs_of c.drop_fork.new.tiles.items

pub returns-clause-room : goal.returns-clause-room
returns-clause-room c =
    let kept = c.drop_fork.ensures in
    whole-room c.drop_fork.new.tiles _ (kept.ascending c.self.invariant.0) (kept.filled c.self.invariant.1) (omega (arith, kept.len, c.self.invariant.2)) refl
    ∙ ap (λ n. min n (2 ^ 57)) kept.capacity
    ∙ sym (whole-room c.self.inside.tiles c.args.self.now c.self.invariant.0 c.self.invariant.1 c.self.invariant.2 c.self.view_is)
