use Rattle.std.proofs.Common.{◌∙◌, ◌-◌, ◌<◌, length, get_or, refl, sym, ap, subst, IsTrue, IsFalse, arith}
use Rattle.std.proofs.lemmas.Bool.{and_parts}
use Rattle.std.proofs.lemmas.List.{length-map}
use Rattle.plain_dag.specs.Collection.{is_collectable}
use Rattle.state_dag.specs.Table.{Table, Entry, is_slot, arrive_in_order}
use Rattle.state_dag.specs.Stands.{Stands}
use Rattle.state_dag.proofs.Calls.{named-is_slot}
use Rattle.ceiling_book.specs.Book.{Book, floors_of}
use Rattle.ceiling_book.specs.Places.{AreSlots, ArePlaced}
use Rattle.path_compress.proofs.Walks.{placed-slots, closed-is_free, collectable-parts, walk-begins, walk-fills, walk-ends, walk-passes, walk-collects}
use Rattle.path_compress.proofs.Walks.{gives-up, together-renamed, stays-named, one-more, ended, reached, judged}
use Rattle.path_compress.proofs.tidy.Goals as goal

pub first_floor-place-requires : goal.first_floor-place-requires
first_floor-place-requires c =
    let start = c.requires.together in
    subst (AreSlots c.args.book.now) (sym c.dag.ensures) (placed-slots c.args.book.now c.args.store.now.table c.requires.records c.requires.collected
    start.placed)

pub loop-place-init : goal.loop-place-init
loop-place-init c = record {
  walk = λ rs ks together.
      let is = c.dag.ensures in
      walk-begins c.args.store.now rs ks (floors_of c.args.book.now) c.args.n c.args.book.now c.first_floor-place.result
      (let within = c.first_floor-place.ensures.within in let same = ap (λ (t : Table). length t.entries) is in omega arith)
      together
      (c.first_floor-place.ensures.open rs ks (subst (λ t. Stands t rs ks) (sym is) together.history.table)
      (subst (λ t. ArePlaced c.args.book.now t rs ks) (sym is) together.placed));
  numbers = record { limits = refl; counts = refl; known = refl };
  promises = record { own = refl; max_sessions = refl; sessions = refl; floors = refl };
  few = omega arith;
}

pub returns-then-count-n-clause-tidied : goal.returns-then-count-n-clause-tidied
returns-then-count-n-clause-tidied c = λ rs ks together.
    (walk-fills c.args.store.now rs ks (floors_of c.args.book.now) c.args.n c.loop-place.store c.loop-place.book c.loop-place.count c.loop-place.place
    c.if-count-n.true (c.loop-place.invariant.walk rs ks together)).together

pub returns-then-count-n-clause-count : goal.returns-then-count-n-clause-count
returns-then-count-n-clause-count c = λ rs ks together.
    (walk-fills c.args.store.now rs ks (floors_of c.args.book.now) c.args.n c.loop-place.store c.loop-place.book c.loop-place.count c.loop-place.place
    c.if-count-n.true (c.loop-place.invariant.walk rs ks together)).many

pub returns-then-count-n-clause-names : goal.returns-then-count-n-clause-names
returns-then-count-n-clause-names c = λ rs ks together.
    (walk-fills c.args.store.now rs ks (floors_of c.args.book.now) c.args.n c.loop-place.store c.loop-place.book c.loop-place.count c.loop-place.place
    c.if-count-n.true (c.loop-place.invariant.walk rs ks together)).uncollected

pub returns-then-count-n-clause-slots : goal.returns-then-count-n-clause-slots
returns-then-count-n-clause-slots c =
    let walk = c.loop-place.invariant.walk c.requires.records c.requires.collected c.requires.together in
    placed-slots c.loop-place.book c.loop-place.store.table c.requires.records walk.now walk.together.placed

pub bounds-kept_slots-place : goal.bounds-kept_slots-place
bounds-kept_slots-place c =
    let walk = c.loop-place.invariant.walk c.requires.records c.requires.collected c.requires.together in
    let within = walk.within in
    let more = c.loop-place-test.true in
    let ids = sym (ap length walk.together.history.table.ids) ∙ length-map c.loop-place.store.table.entries (λ (e : Entry). e.id) in
    let many = ap length c.kept_slots.ensures.is ∙ length-map c.dag-in-loop-place.result.now.entries (λ (e : Entry). e.slot)
    ∙ ap (λ (t : Table). length t.entries) c.dag-in-loop-place.ensures in
    omega arith

pub is_collectable-requires-clause-slots : goal.is_collectable-requires-clause-slots
is_collectable-requires-clause-slots c =
    let walk = c.loop-place.invariant.walk c.requires.records c.requires.collected c.requires.together in
    subst (AreSlots c.loop-place.book) (sym c.dag-in-loop-place-2.ensures)
    (placed-slots c.loop-place.book c.loop-place.store.table c.requires.records walk.now walk.together.placed)

pub is_collectable-requires-clause-slot : goal.is_collectable-requires-clause-slot
is_collectable-requires-clause-slot c =
    let rs = c.requires.records in
    let walk = one-more _ _ _ _ _ _ _ _ _ c.loop-place-test.true (c.loop-place.invariant.walk rs c.requires.collected c.requires.together) in
    let slot = get_or c.kept_slots.result.now (c.loop-place.place - 1) (record { 0 = 0 }) in
    let at = reached c.loop-place.store.table c.dag-in-loop-place.result.now c.kept_slots.result.now rs walk.now (c.loop-place.place - 1)
    (record { 0 = 0 }) c.dag-in-loop-place.ensures
    walk.together.history.table c.kept_slots.ensures.kept (let within = walk.within in omega arith) in
    subst (λ (t : Table). IsTrue (is_slot t slot)) (sym c.dag-in-loop-place-2.ensures) (named-is_slot c.loop-place.store.table slot at.state at.named)

pub loop-place-preserved-then-is_collectable : goal.loop-place-preserved-then-is_collectable
loop-place-preserved-then-is_collectable c =
    let table = c.loop-place.store.table in
    let new = c.collect-stand_in.new.self in
    let book = c.loop-place.book in
    let renamed = c.rename.new.self in
    let i = c.loop-place.place - 1 in
    let slot = get_or c.kept_slots.result.now i (record { 0 = 0 }) in
    let floors = ap floors_of c.rename.ensures.renamed in
    let numbers = c.loop-place.invariant.numbers in
    let promises = c.loop-place.invariant.promises in
    let few : c.loop-place.count < c.args.n = (let so_far = c.loop-place.invariant.few in let other = c.if-count-n.false in omega arith) in
    let stays = and_parts (is_slot new.table c.collect-stand_in.result) (arrive_in_order new.table.entries) c.collect-stand_in.ensures.stays in
    record {
      walk = λ rs ks together.
          let walk = one-more _ _ _ _ _ _ _ _ _ c.loop-place-test.true (c.loop-place.invariant.walk rs ks together) in
          let stands = walk.together.history.table in
          let at = reached table c.dag-in-loop-place.result.now c.kept_slots.result.now rs walk.now i (record { 0 = 0 }) c.dag-in-loop-place.ensures stands
          c.kept_slots.ensures.kept (let within = walk.within in omega arith) in
          let x = at.state in
          let here = sym (judged table c.dag-in-loop-place-2.result.now book rs walk.now slot x c.is_collectable.result c.dag-in-loop-place-2.ensures
          stands walk.together.placed at.named c.is_collectable.ensures.is) ∙ c.if-is_collectable.true in
          let parts = collectable-parts rs (floors_of book) walk.now x here in
          let gives = gives-up table new.table rs walk.now slot c.collect-stand_in.result x parts.2 at.named
          (c.collect-stand_in.ensures.shared rs walk.now walk.together.history x at.named) c.collect-stand_in.ensures.gone stays.0
          c.collect-stand_in.ensures.names in
          let free = closed-is_free rs stands.dag x book parts.1 walk.together.under_floors in
          let placed = c.rename.ensures.placed table new.table rs walk.now x gives.0 stands gives.1 free walk.together.placed in
          let history = c.collect-stand_in.ensures.collected rs walk.now walk.together.history x at.named in
          walk-collects c.args.store.now rs ks (floors_of c.args.book.now) c.args.n c.loop-place.store book c.loop-place.count i walk x at.got new renamed
          (subst (λ fs. IsTrue (is_collectable rs fs walk.now x)) promises.floors here) few
          (together-renamed book renamed c.loop-place.store new rs walk.now x walk.together history placed c.rename.ensures.sessions floors)
          (stays-named table new.table slot x at.named c.collect-stand_in.ensures.names);
      numbers = record {
        limits = c.collect-stand_in.ensures.limits ∙ numbers.limits;
        counts = c.collect-stand_in.ensures.counts ∙ numbers.counts;
        known = c.collect-stand_in.ensures.known ∙ numbers.known;
      };
      promises = record {
        own = ap (λ (b : Book). b.own) c.rename.ensures.renamed ∙ promises.own;
        max_sessions = ap (λ (b : Book). b.max_sessions) c.rename.ensures.renamed ∙ promises.max_sessions;
        sessions = c.rename.ensures.sessions ∙ promises.sessions;
        floors = floors ∙ promises.floors;
      };
      few = omega arith;
    }

pub loop-place-preserved : goal.loop-place-preserved
loop-place-preserved c =
    let table = c.loop-place.store.table in
    let book = c.loop-place.book in
    let i = c.loop-place.place - 1 in
    let slot = get_or c.kept_slots.result.now i (record { 0 = 0 }) in
    record {
      walk = λ rs ks together.
          let walk = one-more _ _ _ _ _ _ _ _ _ c.loop-place-test.true (c.loop-place.invariant.walk rs ks together) in
          let stands = walk.together.history.table in
          let at = reached table c.dag-in-loop-place.result.now c.kept_slots.result.now rs walk.now i (record { 0 = 0 }) c.dag-in-loop-place.ensures stands
          c.kept_slots.ensures.kept (let within = walk.within in omega arith) in
          let x = at.state in
          let here = sym (judged table c.dag-in-loop-place-2.result.now book rs walk.now slot x c.is_collectable.result c.dag-in-loop-place-2.ensures
          stands walk.together.placed at.named c.is_collectable.ensures.is) ∙ c.if-is_collectable.false in
          walk-passes c.args.store.now rs ks (floors_of c.args.book.now) c.args.n c.loop-place.store book c.loop-place.count i walk x at.got
          (subst (λ fs. IsFalse (is_collectable rs fs walk.now x)) c.loop-place.invariant.promises.floors here);
      numbers = c.loop-place.invariant.numbers;
      promises = c.loop-place.invariant.promises;
      few = c.loop-place.invariant.few;
    }

pub returns-clause-tidied : goal.returns-clause-tidied
returns-clause-tidied c = λ rs ks together.
    (walk-ends c.args.store.now rs ks (floors_of c.args.book.now) c.args.n c.loop-place.store c.loop-place.book c.loop-place.count
    (ended _ _ _ _ _ _ _ _ _ c.loop-place-test.false (c.loop-place.invariant.walk rs ks together))).together

pub returns-clause-count : goal.returns-clause-count
returns-clause-count c = λ rs ks together.
    (walk-ends c.args.store.now rs ks (floors_of c.args.book.now) c.args.n c.loop-place.store c.loop-place.book c.loop-place.count
    (ended _ _ _ _ _ _ _ _ _ c.loop-place-test.false (c.loop-place.invariant.walk rs ks together))).many

pub returns-clause-names : goal.returns-clause-names
returns-clause-names c = λ rs ks together.
    (walk-ends c.args.store.now rs ks (floors_of c.args.book.now) c.args.n c.loop-place.store c.loop-place.book c.loop-place.count
    (ended _ _ _ _ _ _ _ _ _ c.loop-place-test.false (c.loop-place.invariant.walk rs ks together))).uncollected

pub returns-clause-slots : goal.returns-clause-slots
returns-clause-slots c =
    let walk = c.loop-place.invariant.walk c.requires.records c.requires.collected c.requires.together in
    placed-slots c.loop-place.book c.loop-place.store.table c.requires.records walk.now walk.together.placed
