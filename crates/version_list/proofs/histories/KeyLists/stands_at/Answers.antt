use Rattle.std.proofs.Common.{◌≡◌, Some, slice_get, sym, ◌∙◌, ap}
use Rattle.std.proofs.lemmas.Option.{same_Some}
use Rattle.std.proofs.lemmas.Slice.Eq.{bytes_eq-Decides}
use Rattle.version_list.specs.Lists.{keys_in}
use Rattle.version_list.proofs.Places.{entry-stands}
use Rattle.version_list.proofs.histories.KeyLists.stands_at.Goals as goal

pub returns-in-Some : goal.returns-in-Some
returns-in-Some c =
    let there = c.in-Some.there.now in
    let key = c.args.key.now in
    let at : slice_get (keys_in c.args.self.now) c.args.place ≡ Some there =
    ap (λ v. slice_get (keys_in v) c.args.place) (sym c.self.view_is)
    ∙ entry-stands c.self.inside.lists.entries c.args.place (there, c.in-Some.field-0-1.now) (sym c.in-Some.ensures.entry) in (
      λ same. at ∙ ap Some ((bytes_eq-Decides there key).0 (sym c.eq.ensures ∙ same)),
      λ stands. c.eq.ensures ∙ (bytes_eq-Decides there key).1 (same_Some there key (sym at ∙ stands)),
    )
