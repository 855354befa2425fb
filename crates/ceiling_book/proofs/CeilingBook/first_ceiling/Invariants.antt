use Rattle.std.specs.Prelude.{Bool, IsTrue, IfSome}
use Rattle.tardis_base.specs.declared.ids.Slot.{Slot}
use Rattle.ceiling_book.specs.Floors.{each_ceiling}
use Rattle.ceiling_book.proofs.CeilingBook.first_ceiling.Given as goal

abbrev pub invariant-loop-held : goal.invariant-loop-held
invariant-loop-held l = record {
  next : (goal.iterator-loop-held).can_next l.held-iterator;
  finite : (goal.iterator-loop-held).is_finite l.held-iterator;
  tested : (test : Slot → Bool) → IsTrue (each_ceiling test l.self.sessions) → IfSome l.first (λ slot. IsTrue (test slot))
      × IsTrue (each_ceiling test l.held-iterator);
}
