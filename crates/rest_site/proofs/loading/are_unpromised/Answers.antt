use Rattle.std.proofs.Common.{rules, tests, ◌==◌}
use Rattle.std.proofs.lemmas.Iterator.{YieldsList-from_slice}
use Rattle.std.proofs.lemmas.Iterator.Search.{all_from_yields_List}
use Rattle.ceiling_book.specs.declared.parts.KnownFloor.{KnownFloor}
use Rattle.rest_site.proofs.loading.are_unpromised.Goals as goal

pub returns : goal.returns
returns c =
    all_from_yields_List (λ (f : KnownFloor). f.number == 0) _ _ _ c.all.ensures.ran (YieldsList-from_slice c.args.floors.now cc) (λ x b q k. search (rules, tests))
