use Rattle.std.proofs.Common.{◌∙◌, ◌==◌, length, ap}
use Rattle.fork_path.proofs.TilePaths.{emptied}
use Rattle.fork_path.proofs.ForkPath.is_empty.Goals as goal

pub returns : goal.returns
returns c =
    c.is_empty.ensures ∙ ap (λ n. n == 0) c.self.inside.tiles.ok.0
    ∙ emptied c.self.inside.tiles.items c.self.invariant.1
    ∙ ap (λ v. length v.pairs == 0) c.self.view_is
