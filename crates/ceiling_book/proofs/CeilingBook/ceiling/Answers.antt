use Rattle.std.proofs.Common.{◌∙◌, Some, ap}
use Rattle.ceiling_book.specs.Places.{IsSlotOf, IsAt, HasStandIn}
use Rattle.ceiling_book.proofs.Entries.{looked-up}
use Rattle.ceiling_book.proofs.Keeping.{session-found, found-ceiling}
use Rattle.ceiling_book.proofs.CeilingBook.ceiling.Goals as goal

pub returns-clause-slot : goal.returns-clause-slot
returns-clause-slot c = λ table slots.
    found-ceiling (IsSlotOf table) (IsSlotOf table) c.args.self.now c.args.session c.session.result.now slots
    (looked-up c.args.session c.args.self.now.sessions ∙ c.session.ensures)

pub returns-clause-ceiling : goal.returns-clause-ceiling
returns-clause-ceiling c = λ table rs ks placed s is.
    found-ceiling (IsAt table) (HasStandIn table rs ks) c.args.self.now c.args.session c.session.result.now placed
    (looked-up c.args.session c.args.self.now.sessions ∙ c.session.ensures)
    ∙ ap (λ t. Some t.ceiling) (session-found c.args.self.now c.args.session c.session.result.now s c.session.ensures is)
