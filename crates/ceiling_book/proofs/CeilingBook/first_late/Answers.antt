use Rattle.std.proofs.Common.{length, IsTrue, ap, subst, arith}
use Rattle.std.proofs.lemmas.List.{length-map}
use Rattle.std.specs.Prelude.{IfSome}
use Rattle.state_dag.specs.Table.{Entry, is_slot}
use Rattle.ceiling_book.proofs.Late.{ceilings-are_slots, late}
use Rattle.ceiling_book.proofs.CeilingBook.first_late.Goals as goal

pub place-requires : goal.place-requires
place-requires c =
    subst (λ o. IfSome o (λ s. IsTrue (is_slot c.args.dag.now s))) c.in-Some.is
    (c.first_ceiling.ensures (is_slot c.args.dag.now) (ceilings-are_slots c.args.self.now c.args.dag.now c.requires.slots))

pub overflow_add-result : goal.overflow_add-result
overflow_add-result c =
    let many = ap length c.kept_slots-kept.ensures.is in
    let same = length-map c.args.dag.now.entries (λ (e : Entry). e.slot) in
    let within = c.place.ensures.within in
    omega (arith, c.kept_slots-kept.type_inv)

pub returns-in-Some-clause-late : goal.returns-in-Some-clause-late
returns-in-Some-clause-late c = λ rs ks stands placed k d le lt.
    late c.args.dag.now rs ks stands c.args.self.now placed c.in-Some.slot c.place.result k d c.place.ensures.at c.place.ensures.within
    (λ test all. subst (λ o. IfSome o (λ s. IsTrue (test s))) c.in-Some.is (c.first_ceiling.ensures test all)) (omega arith) lt
