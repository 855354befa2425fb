use Rattle.std.proofs.Common.{◌≡◌, ◌∙◌, Some, sym, subst}
use Rattle.std.proofs.lemmas.Slice.Eq.{bytes_eq-Decides}
use Rattle.state_dag.specs.Table.{id_at}
use Rattle.record_store.specs.Store.{Store}
use Rattle.record_store.specs.Held.{seen}
use Rattle.record_store.proofs.Holding.{seen-stands}
use Rattle.record_store.proofs.ChildNotes.{noted-news}
use Rattle.record_store.proofs.RecordStore.tried_children.Goals as goal

pub returns-in-Some-clause-news : goal.returns-in-Some-clause-news
returns-in-Some-clause-news c = λ rs ks stands x named out.
    let note = c.in-Some.note.now in
    noted-news (seen c.self.inside) rs ks (seen-stands c.self.inside c.args.self.now c.self.view_is rs ks stands) c.self.invariant.in_order c.args.from x
    (subst (λ (s : Store). id_at s.table c.args.from ≡ Some x) (sym c.self.view_is) named) c.args.key.now out note
    (c.self.invariant.children c.args.from note (sym c.in-Some.ensures))
    ((bytes_eq-Decides note.key c.args.key.now).0 (sym c.eq.ensures ∙ c.if-eq.true))
