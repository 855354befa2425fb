use Rattle.std.proofs.Common.{map, ap, subst, ◌∙◌}
use Rattle.std.proofs.lemmas.Result.{IfOk-weaker}
use Rattle.tardis_base.specs.declared.records.Limits.{Limits}
use Rattle.ceiling_book.specs.Book.{known_floor}
use Rattle.state_dag.specs.Table.{Table}
use Rattle.plain_site.specs.Site.{Site}
use Rattle.plain_checkpoint.specs.Checkpoints.{Told, checkpoint_site}
use Rattle.session_core.specs.Core.{Core}
use Rattle.session_core.specs.Machine.{SiteStands}
use Rattle.session_core.specs.Together.{RestTogether}
use Rattle.site_checkpoint.specs.Stands.{LoadedStands}
use Rattle.site_checkpoint.specs.Held.{seen}
use Rattle.site_checkpoint.proofs.Ending.{rests-together}
use Rattle.site_checkpoint.proofs.Checkpoint.rested.Goals as goal

pub resting-requires : goal.resting-requires
resting-requires c =
    let t = c.self.invariant.told in
    let here = subst (λ v. LoadedStands v t) c.self.view_is c.self.invariant.stands in
    let most = c.resting-book.ensures.max_sessions
    ∙ ap (λ (l : Limits). l.max_sessions) (c.limits.ensures ∙ ap (λ (d : Table). d.limits) c.dag.ensures) in (
      checkpoint_site c.args.self.store.table.limits c.args.own t (map known_floor c.args.known.items),
      rests-together (seen c.self.inside) c.args.self c.self.view_is c.args.own c.args.known.items c.resting-book.result c.requires.first c.requires.last
          c.requires.at c.requires.fits c.resting-book.ensures.own most c.resting-book.ensures.sessions c.resting-book.ensures.floors c.resting-book.ensures.placed t here,
    )

pub returns-clause-stands : goal.returns-clause-stands
returns-clause-stands c =
    let fs = map known_floor c.args.known.items in
    let most = c.resting-book.ensures.max_sessions
    ∙ ap (λ (l : Limits). l.max_sessions) (c.limits.ensures ∙ ap (λ (d : Table). d.limits) c.dag.ensures) in
    let together = rests-together (seen c.self.inside) c.args.self c.self.view_is c.args.own c.args.known.items c.resting-book.result c.requires.first c.requires.last
    c.requires.at c.requires.fits c.resting-book.ensures.own most c.resting-book.ensures.sessions c.resting-book.ensures.floors c.resting-book.ensures.placed in
    IfOk-weaker c.resting.result (λ (core : Core). (site : Site) → RestTogether c.self.inside.store c.resting-book.result site → SiteStands core site)
    (λ (core : Core). (t : Told) → LoadedStands c.args.self t → SiteStands core (checkpoint_site c.args.self.store.table.limits c.args.own t fs))
    (λ core stands t here. stands (checkpoint_site c.args.self.store.table.limits c.args.own t fs) (together t here)) c.resting.ensures.stands
