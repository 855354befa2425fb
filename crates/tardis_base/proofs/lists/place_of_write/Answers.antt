use Rattle.std.proofs.Common.{rules}
use Rattle.std.specs.Ordering.{nat_cmp}
use Rattle.std.specs.Cmp.Lexicographic.{slice_cmp}
use Rattle.std.proofs.lemmas.Fn.{always_returns_same}
use Rattle.tardis_base.specs.Keys.{KeyWrite}
use Rattle.tardis_base.proofs.lists.place_of_write.Goals as goal

pub returns-clause-place : goal.returns-clause-place
returns-clause-place c =
    c.binary_search_by.ensures.position (λ (w : KeyWrite). slice_cmp nat_cmp w.0 c.args.key.now)
    (always_returns_same _ _ _ (λ a r q k. search rules))
