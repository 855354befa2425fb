use Rattle.ceiling_book.specs.declared.parts.KnownFloor.{KnownFloor}
use Rattle.ceiling_book.specs.Held.{seen}
use Rattle.ceiling_book.specs.Places.{IsSlotOf, IsAt, HasStandIn}
use Rattle.ceiling_book.proofs.Consenting.{floor-written, places-kept, named-slot}
use Rattle.ceiling_book.proofs.CeilingBook.take_judged.Goals as goal

pub returns-in-Ok-clause-taken : goal.returns-in-Ok-clause-taken
returns-in-Ok-clause-taken c =
    let p = c.args.promise.now in
    let f : KnownFloor = record { place = record { state = p.floor; slot = c.in-Ok.slot }; number = p.number; stated = p.count } in
    floor-written (seen c.self.inside) c.args.self.now c.self.view_is p.site f

pub returns-in-Ok-clause-slots : goal.returns-in-Ok-clause-slots
returns-in-Ok-clause-slots c =
    let p = c.args.promise.now in
    let f : KnownFloor = record { place = record { state = p.floor; slot = c.in-Ok.slot }; number = p.number; stated = p.count } in
    places-kept (seen c.self.inside) c.args.self.now c.self.view_is p.site f (IsSlotOf c.args.dag.now) (IsSlotOf c.args.dag.now) c.requires.slots
    (named-slot c.args.dag.now c.in-Ok.slot p.floor c.in-Ok.ensures.floor)

pub returns-in-Ok-clause-placed : goal.returns-in-Ok-clause-placed
returns-in-Ok-clause-placed c = λ rs ks stands placed.
    let p = c.args.promise.now in
    let f : KnownFloor = record { place = record { state = p.floor; slot = c.in-Ok.slot }; number = p.number; stated = p.count } in
    places-kept (seen c.self.inside) c.args.self.now c.self.view_is p.site f (IsAt c.args.dag.now) (HasStandIn c.args.dag.now rs ks) placed
    c.in-Ok.ensures.floor
