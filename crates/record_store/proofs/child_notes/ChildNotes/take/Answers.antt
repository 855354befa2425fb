use Rattle.std.proofs.Common.{◌≡◌, Some, subst}
use Rattle.record_store.specs.ChildNotes.{note_for}
use Rattle.record_store.proofs.ChildNotes.{taken-one}
use Rattle.record_store.proofs.child_notes.ChildNotes.take.Goals as goal

pub returns-clause-others : goal.returns-clause-others
returns-clause-others c = λ q n is.
    subst (λ es. (q ≡ c.args.slot → ⊥) × (note_for q es ≡ Some n)) c.self.view_is
    (taken-one c.args.slot q n (note_for q c.self.inside.notes.entries) (note_for q c.swap_remove.new.self.entries) (c.swap_remove.ensures.updates.0 q) is)
