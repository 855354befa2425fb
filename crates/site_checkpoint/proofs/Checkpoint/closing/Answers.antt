use Rattle.std.proofs.Common.{IsTrue, map, sym, ap, subst, ◌∙◌}
use Rattle.std.specs.List.{list_all}
use Rattle.state_dag.specs.Table.{id_at, is_slot}
use Rattle.ceiling_book.specs.declared.parts.KnownFloor.{KnownFloor}
use Rattle.ceiling_book.specs.Book.{known_floor}
use Rattle.site_checkpoint.proofs.Ending.{slots-name, are-slots}
use Rattle.site_checkpoint.proofs.Checkpoint.closing.Goals as goal

pub has_closed-requires : goal.has_closed-requires
has_closed-requires c =
    let table = c.args.self.now.store.table in
    let slots = c.as_slice-2.ensures.value ∙ (c.in_ok-slots.ensures ∙ ap (map (λ (f : KnownFloor). f.place.slot)) c.as_slice.ensures.value) in
    subst (λ ss. IsTrue (list_all (is_slot table) ss)) (sym slots) (are-slots table c.args.known.items c.requires)

pub returns-then-has_closed-clause-closed : goal.returns-then-has_closed-clause-closed
returns-then-has_closed-clause-closed c = λ t stands.
    let table = c.args.self.now.store.table in
    let known = c.args.known.items in
    let slots = c.as_slice-2.ensures.value ∙ (c.in_ok-slots.ensures ∙ ap (map (λ (f : KnownFloor). f.place.slot)) c.as_slice.ensures.value) in
    sym c.if-has_closed.true
    ∙ c.has_closed.ensures t stands (map known_floor known) (ap (map (id_at table)) slots ∙ slots-name table known c.requires)

pub returns-else-has_closed-clause-closed : goal.returns-else-has_closed-clause-closed
returns-else-has_closed-clause-closed c = λ t stands.
    let table = c.args.self.now.store.table in
    let known = c.args.known.items in
    let slots = c.as_slice-2.ensures.value ∙ (c.in_ok-slots.ensures ∙ ap (map (λ (f : KnownFloor). f.place.slot)) c.as_slice.ensures.value) in
    sym c.if-has_closed.false
    ∙ c.has_closed.ensures t stands (map known_floor known) (ap (map (id_at table)) slots ∙ slots-name table known c.requires)
