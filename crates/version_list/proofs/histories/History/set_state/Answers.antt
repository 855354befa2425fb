use Rattle.std.proofs.Common.{◌≡◌, ◌<◌, List, length, get_or, slice_set, ap, subst, ◌∙◌, sym}
use Rattle.version_list.specs.declared.histories.Version.{Version}
use Rattle.version_list.specs.Lists.{Listed}
use Rattle.version_list.specs.Promoted.{at_state}
use Rattle.version_list.proofs.Promotes.{set-twice, same-read}
use Rattle.version_list.proofs.histories.History.set_state.Goals as goal

pub returns-clause-versions : goal.returns-clause-versions
returns-clause-versions c = λ d.
    let i = c.args.place in
    let xs = c.self.inside.versions.items in
    let same = ap (λ (l : Listed). l.versions) c.self.view_is in
    let moved = at_state c.args.to c.replace.result in
    let lt : i < length xs = subst (λ (ys : List Version). i < length ys) (sym same) c.requires in
    let read : moved ≡ at_state c.args.to (get_or xs i d) =
    ap (at_state c.args.to) (c.replace.ensures.item ∙ same-read xs i c.replace.result d lt) in
    c.replace-2.ensures.items
    ∙ ap (λ (ys : List Version). slice_set ys i moved) c.replace.ensures.items
    ∙ set-twice xs i c.default.result moved
    ∙ ap (slice_set xs i) read
    ∙ ap (λ (ys : List Version). slice_set ys i (at_state c.args.to (get_or ys i d))) same
