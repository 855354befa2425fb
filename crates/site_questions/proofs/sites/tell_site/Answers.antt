use Rattle.std.proofs.Common.{◌∙◌, sym, ap, subst}
use Rattle.state_dag.specs.Stands.{Stands}
use Rattle.site_questions.proofs.Lines.{site-is}
use Rattle.site_questions.proofs.sites.tell_site.Goals as goal

pub returns : goal.returns
returns c = λ plain stands.
    let table_is = c.dag-dag.ensures ∙ ap (λ s. s.table) c.store.ensures.is in
    let table = subst (λ t. Stands t plain.dag plain.collected) (sym table_is) stands.store.table in
    site-is plain c.limits.result.now c.own_site.result c.known.result c.kept.result (c.limits.ensures ∙ (ap (λ t. t.limits) table_is ∙ stands.limits))
    (c.own_site.ensures.is ∙ (ap (λ b. b.own) c.book.ensures.is ∙ stands.own)) (c.known.ensures plain.dag plain.collected table)
    (c.kept.ensures plain.dag plain.collected table)
