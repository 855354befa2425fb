use Rattle.std.proofs.Common.{sym, ap, subst, ◌∙◌, arith}
use Rattle.plain_dag.specs.States.{count_of_site}
use Rattle.state_dag.specs.Table.{Table}
use Rattle.state_dag.specs.Stands.{Stands}
use Rattle.record_store.specs.Store.{Store}
use Rattle.ceiling_book.specs.Book.{Book}
use Rattle.rest_site.proofs.Joined.{own-within, next-is, next-valid}
use Rattle.rest_site.proofs.joins.next_id.Goals as goal

pub count-count-requires-clause-last : goal.count-count-requires-clause-last
count-count-requires-clause-last c =
    own-within c.args.core.now c.book.ensures.stands c.own_site-own.result c.dag.result.now (c.own_site-own.ensures.is ∙ ap (λ (b : Book). b.own) c.book.ensures.is)
    (c.dag.ensures ∙ ap (λ (t : Store). t.table) c.store.ensures.is)

pub returns-then-count-clause-next : goal.returns-then-count-clause-next
returns-then-count-clause-next c = λ s stands.
    let table = subst (λ (t : Table). Stands t s.dag s.collected) (sym c.dag.ensures) (c.store.ensures.stands s stands.0).table in
    let own = c.own_site-own.ensures.is ∙ (ap (λ (b : Book). b.own) c.book.ensures.is ∙ stands.0.own) in
    sym (c.count-count.ensures.count s.dag s.collected table ∙ ap (count_of_site s.dag) own) ∙ c.if-count.true

pub returns-clause-next : goal.returns-clause-next
returns-clause-next c = λ s stands.
    let table = subst (λ (t : Table). Stands t s.dag s.collected) (sym c.dag.ensures) (c.store.ensures.stands s stands.0).table in
    let own = c.own_site-own.ensures.is ∙ (ap (λ (b : Book). b.own) c.book.ensures.is ∙ stands.0.own) in
    next-is s c.own_site-own.result c.count-count.result own (c.count-count.ensures.count s.dag s.collected table ∙ ap (count_of_site s.dag) own)

pub returns-clause-valid : goal.returns-clause-valid
returns-clause-valid c =
    next-valid c.own_site-own.result c.count-count.result (omega (arith, c.own_site-own.type_inv)) (omega (arith, c.count-count.type_inv)) c.own_site-own.ensures.first
    c.if-count.false
