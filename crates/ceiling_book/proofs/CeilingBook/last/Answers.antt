use Rattle.std.proofs.Common.{◌∙◌, Some, ap}
use Rattle.plain_dag.specs.Collection.{stand_in}
use Rattle.ceiling_book.specs.Places.{IsSlotOf, IsAt, HasStandIn}
use Rattle.ceiling_book.proofs.Entries.{looked-up}
use Rattle.ceiling_book.proofs.Keeping.{session-found, found-last}
use Rattle.ceiling_book.proofs.CeilingBook.last.Goals as goal

pub returns-clause-state : goal.returns-clause-state
returns-clause-state c = λ s is. ap (λ t. t.last) (session-found c.args.self.now c.args.session c.session.result.now s c.session.ensures is)

pub returns-clause-slot : goal.returns-clause-slot
returns-clause-slot c = λ table slots.
    found-last (IsSlotOf table) (IsSlotOf table) c.args.self.now c.args.session c.session.result.now slots
    (looked-up c.args.session c.args.self.now.sessions ∙ c.session.ensures)

pub returns-clause-stand_in : goal.returns-clause-stand_in
returns-clause-stand_in c = λ table rs ks placed s is.
    found-last (IsAt table) (HasStandIn table rs ks) c.args.self.now c.args.session c.session.result.now placed
    (looked-up c.args.session c.args.self.now.sessions ∙ c.session.ensures)
    ∙ ap (λ t. Some (stand_in rs ks t.last)) (session-found c.args.self.now c.args.session c.session.result.now s c.session.ensures is)
