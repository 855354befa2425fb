use Rattle.std.proofs.Common.{◌≡◌, ◌∙◌, ◌+◌, ◌-◌, ◌<◌, ◌==◌, length, sym, ap, ap₂, eqb-true, arith}
use Rattle.std.proofs.lemmas.Bool.{false_from_ne_true}
use Rattle.std.proofs.lemmas.Option.{same_Some}
use Rattle.std.proofs.lemmas.List.{length-map, length-set}
use Rattle.plain_dag.specs.States.{count_of_site}
use Rattle.plain_dag.specs.Floors.{with_floor}
use Rattle.ceiling_book.specs.declared.parts.KnownFloor.{KnownFloor}
use Rattle.ceiling_book.specs.Book.{known_floor, floors_of, own_floor}
use Rattle.ceiling_book.specs.Held.{seen}
use Rattle.ceiling_book.specs.Places.{IsSlotOf, IsAt, HasStandIn}
use Rattle.ceiling_book.proofs.Moves.{own-floor-known, own-floor-written, floor-keeps}
use Rattle.ceiling_book.proofs.CeilingBook.move_floor.Goals as goal

pub returns-clause-moved : goal.returns-clause-moved
returns-clause-moved c = λ rs ks stands x named.
    let book = seen c.self.inside in
    let now = c.args.self.now in
    let is = c.self.view_is in
    let within : c.self.inside.own - 1 < length c.self.inside.floors.items = (let first = c.self.invariant.first in let last = c.self.invariant.last in
    omega arith) in
    let known = own-floor-known book now is c.index.result.now within c.index.ensures in
    let number : c.index.result.now.number ≡ (own_floor now).number = ap (λ f. f.number) known in
    let here = same_Some c.id_of.result x (sym c.id_of.ensures.is ∙ named) in
    let count : c.count.result ≡ count_of_site rs now.own = c.count.ensures.count rs ks stands ∙ ap (λ b. count_of_site rs b.own) is in
    let f : KnownFloor = record {
      place = record { state = c.id_of.result; slot = c.args.slot };
      number = c.index.result.now.number + 1;
      stated =
          c.count.result;
    } in (
      false_from_ne_true ((own_floor now).number == 4294967295) (λ t. c.if-number.false (number ∙ eqb-true (own_floor now).number 4294967295 t)),
      ap (λ n. n + 1) number,
      own-floor-written book now is f
          ∙ ap₂ (λ y n. with_floor (floors_of now) now.own (record { state = y; number = c.index.result.now.number + 1; stated = n })) here count,
    )

pub returns-clause-slots : goal.returns-clause-slots
returns-clause-slots c =
    let f : KnownFloor = record {
      place = record { state = c.id_of.result; slot = c.args.slot };
      number = c.index.result.now.number + 1;
      stated =
          c.count.result;
    } in
    floor-keeps (seen c.self.inside) c.args.self.now c.self.view_is (IsSlotOf c.args.dag.now) (IsSlotOf c.args.dag.now) f c.requires.slots c.requires.slot

pub returns-clause-placed : goal.returns-clause-placed
returns-clause-placed c = λ rs ks stands placed.
    let f : KnownFloor = record {
      place = record { state = c.id_of.result; slot = c.args.slot };
      number = c.index.result.now.number + 1;
      stated =
          c.count.result;
    } in
    floor-keeps (seen c.self.inside) c.args.self.now c.self.view_is (IsAt c.args.dag.now) (HasStandIn c.args.dag.now rs ks) f placed c.id_of.ensures.is

pub count-requires-clause-last : goal.count-requires-clause-last
count-requires-clause-last c =
    let sites : length c.self.inside.floors.items ≡ c.args.dag.now.limits.sites = sym (length-map c.self.inside.floors.items known_floor)
    ∙ ap (λ b. length (floors_of b)) c.self.view_is ∙ c.requires.sites in
    let last = c.self.invariant.last in
    omega arith

pub returns-clause-rest : goal.returns-clause-rest
returns-clause-rest c =
    let f : KnownFloor = record {
      place = record { state = c.id_of.result; slot = c.args.slot };
      number = c.index.result.now.number + 1;
      stated =
          c.count.result;
    } in
    record {
      own = ap (λ b. b.own) c.self.view_is;
      max_sessions = ap (λ b. b.max_sessions) c.self.view_is;
      root = ap (λ b. b.root) c.self.view_is;
      sessions = ap (λ b. b.sessions) c.self.view_is;
      sites = length-set c.self.inside.floors.items (c.self.inside.own - 1) f ∙ ap (λ b. length b.floors) c.self.view_is;
    }
