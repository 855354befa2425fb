use Rattle.std.proofs.Common.{ap, ◌∙◌}
use Rattle.std.specs.Prelude.{slice_get}
use Rattle.version_list.proofs.Seated.{listed-is}
use Rattle.version_list.proofs.version_lists.VersionList.key_at.Goals as goal

pub returns : goal.returns
returns c =
    let a = c.self.inside in
    ap (λ ks. slice_get ks c.args.place) (listed-is c.args.self.now a.seats a.lists a.notes _ c.self.view_is) ∙ c.key_at.ensures
