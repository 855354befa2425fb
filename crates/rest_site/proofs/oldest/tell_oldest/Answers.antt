use Rattle.std.proofs.Common.{ap, ◌∙◌}
use Rattle.rest_site.specs.Oldest.{oldest_told}
use Rattle.rest_site.proofs.oldest.tell_oldest.Goals as goal

pub returns : goal.returns
returns c = λ s stands. c.tell_holder.ensures ∙ ap oldest_told (c.what_holds-holder.ensures s stands)
