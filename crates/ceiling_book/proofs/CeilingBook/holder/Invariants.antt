use Rattle.std.proofs.Common.{◌≡◌}
use Rattle.std.specs.List.{All}
use Rattle.std.specs.Map.{values_of}
use Rattle.ceiling_book.specs.declared.parts.OpenSession.{OpenSession}
use Rattle.ceiling_book.specs.Floors.{slot_holder}
use Rattle.ceiling_book.specs.Places.{IsSlotOf}
use Rattle.ceiling_book.proofs.CeilingBook.holder.Given as goal

abbrev pub invariant-loop-number : goal.invariant-loop-number
invariant-loop-number l = record {
  next : (goal.iterator-loop-number).can_next l.number-iterator;
  finite : (goal.iterator-loop-number).is_finite l.number-iterator;
  found : slot_holder l.dag l.self.sessions l.slot ≡ slot_holder l.dag l.number-iterator l.slot;
  slots : All (λ (s : OpenSession). IsSlotOf l.dag s.ceiling) (values_of l.number-iterator);
}
