use Rattle.ceiling_book.specs.Places.{IsSlotOf, IsAt, HasStandIn}
use Rattle.ceiling_book.specs.Held.{seen}
use Rattle.ceiling_book.proofs.Keeping.{sessions-closed, closed-keeps}
use Rattle.ceiling_book.proofs.CeilingBook.close_session.Goals as goal

pub returns-clause-closed : goal.returns-clause-closed
returns-clause-closed c = sessions-closed (seen c.self.inside) c.args.self.now c.self.view_is c.remove.new.self.entries c.args.session
    c.remove.ensures.entries c.remove.ensures.updates.1

pub returns-clause-slots : goal.returns-clause-slots
returns-clause-slots c = λ table slots.
    closed-keeps (IsSlotOf table) (IsSlotOf table) (seen c.self.inside) c.args.self.now c.self.view_is c.remove.new.self.entries c.args.session slots
    c.remove.ensures.entries

pub returns-clause-placed : goal.returns-clause-placed
returns-clause-placed c = λ table rs ks placed.
    closed-keeps (IsAt table) (HasStandIn table rs ks) (seen c.self.inside) c.args.self.now c.self.view_is c.remove.new.self.entries c.args.session placed
    c.remove.ensures.entries
