use Rattle.std.proofs.Common.{◌≡◌, Some, bytes_eq, sym, ◌∙◌, ap, subst}
use Rattle.std.specs.Map.{lookup}
use Rattle.std.proofs.lemmas.Slice.Eq.{bytes_eq-Decides}
use Rattle.version_list.specs.Lists.{listed_in}
use Rattle.version_list.proofs.histories.KeyLists.history.Goals as goal

pub returns-in-Some : goal.returns-in-Some
returns-in-Some c =
    let there = c.in-Some.there.now in
    let key = c.args.key.now in
    let es = c.self.inside.lists.entries in
    let found : lookup (bytes_eq there) es ≡ Some c.in-Some.history.now = c.in-Some.ensures.value in
    let own = subst (λ k. lookup (bytes_eq k) es ≡ Some c.in-Some.history.now) ((bytes_eq-Decides there key).0 (sym c.eq.ensures ∙ c.if-eq.true)) found in
    sym own ∙ ap (λ v. listed_in v key) c.self.view_is
