use Rattle.std.proofs.Common.{◌≡◌, take, filter}
use Rattle.plain_dag.specs.Collection.{is_kept}
use Rattle.state_dag.specs.Stands.{Stands}
use Rattle.plain_site.specs.Site.{Site}
use Rattle.site_questions.proofs.records.kept_of.Given as goal

abbrev pub invariant-loop-state : goal.invariant-loop-state
invariant-loop-state l =
    (site : Site) → Stands l.dag site.dag site.collected → l.kept ≡ filter (is_kept site.dag site.collected) (take l.state-index l.states)
