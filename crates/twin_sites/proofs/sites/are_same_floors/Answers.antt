use Rattle.std.proofs.Common.{◌∙◌, List, map, slice_get, get_or, Some, refl, sym, ap, arith}
use Rattle.std.proofs.lemmas.Bool.{both_ways}
use Rattle.std.proofs.lemmas.List.{length-map}
use Rattle.std.proofs.lemmas.Option.{same_Some}
use Rattle.plain_dag.specs.Floors.{Floor}
use Rattle.ceiling_book.specs.declared.parts.KnownFloor.{KnownFloor}
use Rattle.ceiling_book.specs.Book.{known_floor}
use Rattle.twin_stores.proofs.Places.{same-next, same-all, mapped-place, refused}
use Rattle.twin_sites.proofs.sites.are_same_floors.Goals as goal

-- what is read past the end
abbrev no_floor : KnownFloor
no_floor = record { place = record { state = record { site = 0; sequence = 0 }; slot = record { 0 = 0 } }; number = 0; stated = 0 }

pub returns-then-not-is_same_floor : goal.returns-then-not-is_same_floor
returns-then-not-is_same_floor c =
    let i = c.loop-place.place in
    let fs = c.args.floors.now in
    let gs = c.args.others.now in
    let one = mapped-place known_floor fs i no_floor (let lt = c.loop-place-test.true in omega arith) in
    let two = mapped-place known_floor gs i no_floor (let lt = c.loop-place-test.true in let long = c.if-floors-others.false in omega arith) in
    refused (λ same. both_ways c.is_same_floor.result c.if-not-is_same_floor.true (c.is_same_floor.ensures.1
    (same_Some (known_floor (get_or fs i no_floor)) (known_floor (get_or gs i no_floor))
    (sym one ∙ (ap (λ (os : List Floor). slice_get os i) same ∙ two)))))

pub loop-place-preserved : goal.loop-place-preserved
loop-place-preserved c =
    let i = c.loop-place.place in
    let fs = c.args.floors.now in
    let gs = c.args.others.now in
    let one = mapped-place known_floor fs i no_floor (let lt = c.loop-place-test.true in omega arith) in
    let two = mapped-place known_floor gs i no_floor (let lt = c.loop-place-test.true in let long = c.if-floors-others.false in omega arith) in
    same-next (map known_floor fs) (map known_floor gs) i c.loop-place.invariant
    (one ∙ (ap (λ (f : Floor). Some f) (c.is_same_floor.ensures.0 c.if-not-is_same_floor.false) ∙ sym two))

pub returns : goal.returns
returns c =
    let fs = c.args.floors.now in
    let gs = c.args.others.now in
    let first = length-map fs known_floor in
    let second = length-map gs known_floor in
    let long = c.if-floors-others.false in (
      λ _. same-all (map known_floor fs) (map known_floor gs) (omega arith)
          (λ k lt. c.loop-place.invariant k (let end = c.loop-place-test.false in omega arith)),
      λ _. refl,
    )
