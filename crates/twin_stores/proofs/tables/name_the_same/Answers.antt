use Rattle.std.proofs.Common.{◌≡◌, ◌∙◌, List, map, slice_get, get_or, Option, Some, refl, sym, ap, arith}
use Rattle.std.proofs.lemmas.List.{length-map}
use Rattle.std.proofs.lemmas.Option.{same_Some}
use Rattle.tardis_base.specs.declared.ids.StateId.{StateId}
use Rattle.tardis_base.specs.declared.ids.Slot.{Slot}
use Rattle.state_dag.specs.Table.{id_at}
use Rattle.twin_stores.proofs.Places.{same-none, same-next, same-all, mapped-place, refused, same-ids, other-ids}
use Rattle.twin_stores.proofs.tables.name_the_same.Goals as goal

pub loop-place-init : goal.loop-place-init
loop-place-init c = same-none (map (id_at c.args.one.now) c.args.slots.now) (map (id_at c.args.other.now) c.args.others.now)

pub returns-then-ne : goal.returns-then-ne
returns-then-ne c =
    let i = c.loop-place.place in
    let d : Slot = record { 0 = 0 } in
    let one = mapped-place (id_at c.args.one.now) c.args.slots.now i d (let lt = c.loop-place-test.true in omega arith) in
    let two = mapped-place (id_at c.args.other.now) c.args.others.now i d
    (let lt = c.loop-place-test.true in let long = c.if-slots-others.false in omega arith) in
    refused (λ same.
    let here : id_at c.args.one.now (get_or c.args.slots.now i d) ≡ id_at c.args.other.now (get_or c.args.others.now i d) =
    same_Some (id_at c.args.one.now (get_or c.args.slots.now i d)) (id_at c.args.other.now (get_or c.args.others.now i d))
    (sym one ∙ (ap (λ (os : List (Option StateId)). slice_get os i) same ∙ two)) in
    other-ids c.id_of.result c.id_of-in-loop-place.result c.ne.result c.ne.ensures c.if-ne.true
    (same_Some c.id_of.result c.id_of-in-loop-place.result (sym c.id_of.ensures.is ∙ (here ∙ c.id_of-in-loop-place.ensures.is))))

pub loop-place-preserved : goal.loop-place-preserved
loop-place-preserved c =
    let i = c.loop-place.place in
    let d : Slot = record { 0 = 0 } in
    let one = mapped-place (id_at c.args.one.now) c.args.slots.now i d (let lt = c.loop-place-test.true in omega arith) in
    let two = mapped-place (id_at c.args.other.now) c.args.others.now i d
    (let lt = c.loop-place-test.true in let long = c.if-slots-others.false in omega arith) in
    let same = same-ids c.id_of.result c.id_of-in-loop-place.result c.ne.result c.ne.ensures c.if-ne.false in
    same-next (map (id_at c.args.one.now) c.args.slots.now) (map (id_at c.args.other.now) c.args.others.now) i c.loop-place.invariant
    (one ∙ (ap (λ o. Some o) (c.id_of.ensures.is ∙ (ap (λ x. Some x) same ∙ sym c.id_of-in-loop-place.ensures.is)) ∙ sym two))

pub returns : goal.returns
returns c =
    let xs = map (id_at c.args.one.now) c.args.slots.now in
    let ys = map (id_at c.args.other.now) c.args.others.now in
    let first = length-map c.args.slots.now (id_at c.args.one.now) in
    let second = length-map c.args.others.now (id_at c.args.other.now) in
    let long = c.if-slots-others.false in
    (λ _. same-all xs ys (omega arith) (λ k lt. c.loop-place.invariant k (let end = c.loop-place-test.false in omega arith)), λ _. refl)
