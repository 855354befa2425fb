use Rattle.std.proofs.Common.{List, sym, subst}
use Rattle.tardis_base.specs.declared.ids.Slot.{Slot}
use Rattle.record_store.specs.declared.child_notes.ChildNote.{ChildNote}
use Rattle.record_store.specs.Held.{IsHeld}
use Rattle.record_store.proofs.RowOrders.{held-after}
use Rattle.record_store.proofs.RowStores.{row-at, stands-after, last-before, stand_ins-after, reads-after, slots-stay}
use Rattle.record_store.proofs.RecordStore.advance.Goals as goal

pub invariant_of-self : goal.invariant_of-self
invariant_of-self c =
    subst (λ (es : List (Slot × ChildNote)). IsHeld (record c.self.inside { dag = c.advance.new.self; notes = es })) (sym c.clear.ensures)
    (held-after c.self.inside c.advance.new.self c.args.site c.args.count c.advance.result c.self.invariant c.advance.ensures.advanced c.advance.ensures.kept
    c.advance.ensures.arrived c.advance.ensures.arrivals c.advance.ensures.newest)

pub returns-clause-stands : goal.returns-clause-stands
returns-clause-stands c =
    stands-after c.self.inside c.args.self.now c.self.view_is c.advance.new.self c.args.site c.args.count c.advance.result c.self.invariant.in_order
    (row-at c.self.inside.dag c.advance.new.self c.args.site c.args.count c.advance.result c.advance.ensures.advanced c.advance.ensures.stands
    c.advance.ensures.slot c.advance.ensures.names c.advance.ensures.arrived c.advance.ensures.newest)

pub returns-clause-last : goal.returns-clause-last
returns-clause-last c =
    last-before c.self.inside c.args.self.now c.self.view_is c.advance.new.self c.args.site c.args.count c.advance.result c.self.invariant.in_order
    (row-at c.self.inside.dag c.advance.new.self c.args.site c.args.count c.advance.result c.advance.ensures.advanced c.advance.ensures.stands
    c.advance.ensures.slot c.advance.ensures.names c.advance.ensures.arrived c.advance.ensures.newest)

pub returns-clause-kept : goal.returns-clause-kept
returns-clause-kept c =
    slots-stay c.self.inside c.args.self.now c.self.view_is c.advance.new.self c.self.invariant.in_order
    (held-after c.self.inside c.advance.new.self c.args.site c.args.count c.advance.result c.self.invariant c.advance.ensures.advanced c.advance.ensures.kept
    c.advance.ensures.arrived c.advance.ensures.arrivals c.advance.ensures.newest).in_order c.advance.ensures.kept

pub returns-clause-stand_ins : goal.returns-clause-stand_ins
returns-clause-stand_ins c =
    stand_ins-after c.self.inside c.args.self.now c.self.view_is c.advance.new.self c.args.site c.args.count c.advance.result c.self.invariant.in_order
    (row-at c.self.inside.dag c.advance.new.self c.args.site c.args.count c.advance.result c.advance.ensures.advanced c.advance.ensures.stands
    c.advance.ensures.slot c.advance.ensures.names c.advance.ensures.arrived c.advance.ensures.newest)

pub returns-clause-reads : goal.returns-clause-reads
returns-clause-reads c =
    reads-after c.self.inside c.args.self.now c.self.view_is c.advance.new.self c.args.site c.args.count c.advance.result c.self.invariant.in_order
    (row-at c.self.inside.dag c.advance.new.self c.args.site c.args.count c.advance.result c.advance.ensures.advanced c.advance.ensures.stands
    c.advance.ensures.slot c.advance.ensures.names c.advance.ensures.arrived c.advance.ensures.newest)
