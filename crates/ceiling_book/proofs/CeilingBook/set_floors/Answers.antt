use Rattle.std.proofs.Common.{◌∙◌, replicate, sym, ap, subst}
use Rattle.ceiling_book.specs.declared.parts.Place.{Place}
use Rattle.ceiling_book.specs.Book.{Book, floors_of}
use Rattle.ceiling_book.specs.Held.{seen}
use Rattle.ceiling_book.specs.Places.{IsSlotOf, IsAt, HasStandIn, AreSlots, ArePlaced}
use Rattle.ceiling_book.specs.Floors.{unpromised_at}
use Rattle.ceiling_book.proofs.Moves.{floors-set, all-known, floors-placed}
use Rattle.ceiling_book.proofs.CeilingBook.set_floors.Goals as goal

pub returns-clause-set : goal.returns-clause-set
returns-clause-set c =
    let place : Place = record { state = c.args.state; slot = c.args.slot } in
    let written = c.fill.ensures.items (λ y e. e) ∙ ap (λ n. replicate n (unpromised_at place)) c.self.inside.floors.ok.0 in
    floors-set (seen c.self.inside) c.args.self.now c.self.view_is place c.fill.new.self.items written

pub returns-clause-floors : goal.returns-clause-floors
returns-clause-floors c =
    let place : Place = record { state = c.args.state; slot = c.args.slot } in
    let written = c.fill.ensures.items (λ y e. e) ∙ ap (λ n. replicate n (unpromised_at place)) c.self.inside.floors.ok.0 in
    ap floors_of (floors-set (seen c.self.inside) c.args.self.now c.self.view_is place c.fill.new.self.items written)
    ∙ all-known place c.args.self.now.floors

pub returns-clause-slots : goal.returns-clause-slots
returns-clause-slots c = λ table beside at.
    let place : Place = record { state = c.args.state; slot = c.args.slot } in
    let written = c.fill.ensures.items (λ y e. e) ∙ ap (λ n. replicate n (unpromised_at place)) c.self.inside.floors.ok.0 in
    subst (λ (book : Book). AreSlots book table)
    (sym (floors-set (seen c.self.inside) c.args.self.now c.self.view_is place c.fill.new.self.items written))
    (floors-placed (IsSlotOf table) (IsSlotOf table) place c.args.self.now beside at)

pub returns-clause-placed : goal.returns-clause-placed
returns-clause-placed c = λ table rs ks beside named.
    let place : Place = record { state = c.args.state; slot = c.args.slot } in
    let written = c.fill.ensures.items (λ y e. e) ∙ ap (λ n. replicate n (unpromised_at place)) c.self.inside.floors.ok.0 in
    subst (λ (book : Book). ArePlaced book table rs ks)
    (sym (floors-set (seen c.self.inside) c.args.self.now c.self.view_is place c.fill.new.self.items written))
    (floors-placed (IsAt table) (HasStandIn table rs ks) place c.args.self.now beside named)
