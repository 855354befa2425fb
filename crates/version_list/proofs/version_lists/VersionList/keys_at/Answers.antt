use Rattle.std.proofs.Common.{sym, ap, ◌∙◌}
use Rattle.version_list.specs.Lists.{versions_in}
use Rattle.version_list.specs.Notes.{is_key_in}
use Rattle.version_list.specs.Versions.{has_version_at}
use Rattle.version_list.proofs.Seated.{versions-are, seen-has}
use Rattle.version_list.proofs.version_lists.VersionList.keys_at.Goals as goal

pub returns : goal.returns
returns c = λ k.
    let a = c.self.inside in
    let vs = versions_in a.lists k in
    ap (is_key_in k) c.at.ensures ∙ c.self.invariant.1 c.seat.result k ∙ ap (λ s. has_version_at s vs) c.seat.ensures
    ∙ sym (seen-has a.seats c.self.invariant.2 c.args.slot vs)
    ∙ sym (ap (has_version_at c.args.slot) (versions-are c.args.self.now a.seats a.lists a.notes _ c.self.view_is k))
