use Rattle.std.proofs.Common.{sym}
use Rattle.version_list.proofs.Promotes.{any_version, own-found}
use Rattle.version_list.proofs.histories.has_version.Goals as goal

pub returns-in-Some : goal.returns-in-Some
returns-in-Some g c =
    sym (own-found (g.A.Above.is_kept c.args.dag.now) (g.A.Above.arrival_of c.args.dag.now) c.args.at c.args.versions.now c.in-Some.field-0 any_version
    c.in-Some.ensures.there.0 (c.in-Some.ensures.there.1 any_version))
