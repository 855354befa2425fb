use Rattle.state_dag.specs.Table.{is_slot}
use Rattle.ceiling_book.proofs.Late.{ceilings-are_slots, first-tested}
use Rattle.ceiling_book.proofs.CeilingBook.first_ceiling.Goals as goal

pub is_earlier-requires-clause-slot : goal.is_earlier-requires-clause-slot
is_earlier-requires-clause-slot c =
    first-tested (is_slot c.args.dag.now) c.loop-held.held-iterator c.next.new.self _ c.in-Some.held.now c.in-Some.ensures.steps
    (c.loop-held.invariant.tested (is_slot c.args.dag.now) (ceilings-are_slots c.args.self.now c.args.dag.now c.requires)).1

pub is_earlier-requires-clause-other : goal.is_earlier-requires-clause-other
is_earlier-requires-clause-other c = (c.loop-held.invariant.tested (is_slot c.args.dag.now) (ceilings-are_slots c.args.self.now c.args.dag.now c.requires)).0
