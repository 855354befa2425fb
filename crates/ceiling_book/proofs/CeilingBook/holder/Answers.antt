use Rattle.ceiling_book.specs.Places.{IsSlotOf}
use Rattle.ceiling_book.proofs.Moves.{first-at, rest-at, holder-behind}
use Rattle.std.proofs.Common.{◌∙◌, sym}
use Rattle.ceiling_book.proofs.CeilingBook.holder.Goals as goal

pub is_ancestor-requires-clause-second : goal.is_ancestor-requires-clause-second
is_ancestor-requires-clause-second c =
    first-at (IsSlotOf c.args.dag.now) c.loop-number.number-iterator c.next.new.self c.in-Some.number.now c.in-Some.held.now c.in-Some.ensures.steps
    c.loop-number.invariant.slots

pub loop-number-preserved : goal.loop-number-preserved
loop-number-preserved c = record {
  next = tt;
  finite = tt;
  found = c.loop-number.invariant.found ∙ holder-behind c.args.dag.now c.loop-number.number-iterator c.next.new.self c.in-Some.number.now
      c.in-Some.held.now c.args.slot c.in-Some.ensures.steps (sym c.is_ancestor.ensures.is ∙ c.if-not-is_ancestor.false);
  slots = rest-at (IsSlotOf c.args.dag.now) c.loop-number.number-iterator c.next.new.self c.in-Some.number.now c.in-Some.held.now c.in-Some.ensures.steps
      c.loop-number.invariant.slots;
}
