use Rattle.std.proofs.Common.{◌≡◌, ◌≤◌, ◌<◌, ℕ, Some, None, sym, ap, subst, ◌∙◌, arith}
use Rattle.plain_site.specs.Site.{Site}
use Rattle.state_dag.specs.Table.{Table}
use Rattle.state_dag.specs.Stands.{Stands}
use Rattle.record_store.specs.Store.{Store}
use Rattle.site_doors.proofs.Bounds.{alone, few, many}
use Rattle.site_doors.proofs.room.reached_by_commit.Goals as goal

pub returns-then-limits-le1 : goal.returns-then-limits-le1
returns-then-limits-le1 c = λ site stands.
    let table = c.dag-dag.ensures ∙ ap (λ (z : Store). z.table) c.store.ensures.is in
    let same = c.limits-limits.ensures ∙ (ap (λ (z : Table). z.limits) table ∙ stands.0.limits) in
    alone site (c.args.actor, c.args.body.now) c.limits-limits.result.now same c.if-limits-le1.true

pub returns-then-has_share : goal.returns-then-has_share
returns-then-has_share c = λ site stands.
    let table = c.dag-dag.ensures ∙ ap (λ (z : Store). z.table) c.store.ensures.is in
    let same = c.limits-limits.ensures ∙ (ap (λ (z : Table). z.limits) table ∙ stands.0.limits) in
    let stood = subst (λ d. Stands d site.dag site.collected) (sym c.dag-dag.ensures) (c.store.ensures.stands site stands.0).table in
    few site (c.args.actor, c.args.body.now) c.limits-limits.result.now same c.kept-kept.result (c.kept-kept.ensures site.dag site.collected stood)
    (sym c.has_share.ensures ∙ c.if-has_share.true)

pub returns-in-Some : goal.returns-in-Some
returns-in-Some c = λ site stands.
    let table = c.dag-dag.ensures ∙ ap (λ (z : Store). z.table) c.store.ensures.is in
    let same = c.limits-limits.ensures ∙ (ap (λ (z : Table). z.limits) table ∙ stands.0.limits) in
    let stood = subst (λ d. Stands d site.dag site.collected) (sym c.dag-dag.ensures) (c.store.ensures.stands site stands.0).table in
    c.where_kept.ensures
    ∙ many site (c.args.actor, c.args.body.now) c.limits-limits.result.now same c.kept-kept.result (c.kept-kept.ensures site.dag site.collected stood)
    (omega (arith, c.if-limits-le1.false)) (Some c.in-Some.bound) (sym c.in-Some.is ∙ c.bound_for.ensures site stands)

pub returns-in-None : goal.returns-in-None
returns-in-None c = λ site stands.
    let table = c.dag-dag.ensures ∙ ap (λ (z : Store). z.table) c.store.ensures.is in
    let same = c.limits-limits.ensures ∙ (ap (λ (z : Table). z.limits) table ∙ stands.0.limits) in
    let stood = subst (λ d. Stands d site.dag site.collected) (sym c.dag-dag.ensures) (c.store.ensures.stands site stands.0).table in
    many site (c.args.actor, c.args.body.now) c.limits-limits.result.now same c.kept-kept.result (c.kept-kept.ensures site.dag site.collected stood)
    (omega (arith, c.if-limits-le1.false)) None (sym c.in-None.is ∙ c.bound_for.ensures site stands)
