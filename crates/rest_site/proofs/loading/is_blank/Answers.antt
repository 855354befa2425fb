use Rattle.std.proofs.Common.{◌==◌, ◌&&◌, sym, ap, subst, ◌∙◌, eq-eqb}
use Rattle.std.specs.List.{list_all}
use Rattle.state_dag.specs.Table.{Table}
use Rattle.state_dag.specs.Stands.{Stands}
use Rattle.record_store.specs.Store.{Store}
use Rattle.ceiling_book.specs.declared.parts.KnownFloor.{KnownFloor}
use Rattle.ceiling_book.specs.Book.{Book}
use Rattle.rest_site.proofs.Loads.{blank-there}
use Rattle.rest_site.proofs.loading.is_blank.Goals as goal

pub returns-then-known-eq1 : goal.returns-then-known-eq1
returns-then-known-eq1 c = λ site stands.
    let table = c.dag.ensures ∙ ap (λ (s : Store). s.table) c.store.ensures.is in
    let known = c.known.ensures site.dag site.collected (subst (λ (t : Table). Stands t site.dag site.collected) (sym table) stands.0.store.table) in
    let floors = c.floors.ensures.is ∙ ap (λ (b : Book). b.floors) c.book.ensures.is in
    let all = c.are_unpromised.ensures ∙ ap (list_all (λ (f : KnownFloor). f.number == 0)) floors in
    ap (λ b. b && c.are_unpromised.result) (sym (eq-eqb c.known.result 1 c.if-known-eq1.true))
    ∙ blank-there c.args.core.now site c.known.result c.are_unpromised.result stands known all
