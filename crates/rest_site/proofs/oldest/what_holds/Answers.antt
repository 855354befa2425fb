use Rattle.std.proofs.Common.{ap, subst, sym, ◌∙◌}
use Rattle.state_dag.specs.Table.{Table}
use Rattle.record_store.specs.Store.{Store}
use Rattle.ceiling_book.specs.Places.{AreSlots}
use Rattle.rest_site.proofs.Firsts.{site-tells}
use Rattle.rest_site.proofs.oldest.what_holds.Goals as goal

pub oldest_promise-requires : goal.oldest_promise-requires
oldest_promise-requires c =
    subst (λ (t : Table). AreSlots c.book.result.now t) (sym (c.dag-dag.ensures ∙ ap (λ (s : Store). s.table) c.store.ensures.is)) c.book.ensures.slots

pub returns : goal.returns
returns c = λ s stands.
    site-tells c.args.core.now s stands.0 c.book.result.now c.dag-dag.result.now c.book.ensures.is (c.dag-dag.ensures ∙ ap (λ (t : Store). t.table) c.store.ensures.is)
    c.oldest_promise.result c.oldest_promise.ensures c.holder_of.result c.holder_of.ensures
