use Rattle.std.proofs.Common.{sym, ap, subst, map, ◌∙◌, bytes_eq}
use Rattle.std.specs.List.{IsDistinct}
use Rattle.tardis_base.specs.Keys.{is_key_among}
use Rattle.version_list.specs.Seats.{seen_version}
use Rattle.version_list.proofs.Seated.{listed-is, versions-are}
use Rattle.version_list.proofs.version_lists.VersionList.keys.Goals as goal

pub returns-clause-distinct : goal.returns-clause-distinct
returns-clause-distinct c =
    let a = c.self.inside in
    subst (IsDistinct bytes_eq) (sym (listed-is c.args.self.now a.seats a.lists a.notes _ c.self.view_is)) c.keys.ensures.distinct

pub returns-clause-listed : goal.returns-clause-listed
returns-clause-listed c = λ k none.
    let a = c.self.inside in
    versions-are c.args.self.now a.seats a.lists a.notes _ c.self.view_is k
    ∙ ap (map (seen_version a.seats))
    (c.keys.ensures.listed k (sym (ap (is_key_among k) (listed-is c.args.self.now a.seats a.lists a.notes _ c.self.view_is)) ∙ none))
