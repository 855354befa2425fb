use Rattle.std.proofs.Common.{◌∙◌, ap, ap₂}
use Rattle.fork_path.specs.Pairs.{has_pairs}
use Rattle.fork_path.specs.Tiles.{pairs_of}
use Rattle.fork_path.proofs.TilePaths.{included}
use Rattle.fork_path.proofs.ForkPath.includes.Goals as goal

pub returns : goal.returns
returns c =
    included c.as_slice.result.now c.as_slice-2.result.now c.includes_tiles.result c.includes_tiles.ensures.inside c.includes_tiles.ensures.outside
    ∙ ap₂ (λ xs ys. has_pairs (pairs_of xs) (pairs_of ys)) c.as_slice.ensures.value c.as_slice-2.ensures.value
    ∙ ap₂ has_pairs (ap (λ v. v.pairs) c.self.view_is) (ap (λ v. v.pairs) c.other.view_is)
