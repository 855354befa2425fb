use Rattle.std.proofs.Common.{◌≡◌, ◌⊎◌, Some, subst}
use Rattle.record_store.specs.ChildNotes.{note_for}
use Rattle.record_store.proofs.ChildNotes.{put-one}
use Rattle.record_store.proofs.child_notes.ChildNotes.put.Goals as goal

pub returns-in-Ok : goal.returns-in-Ok
returns-in-Ok c = λ q n is.
    subst (λ es. (note_for q es ≡ Some n) ⊎ ((q ≡ c.args.slot) × (n ≡ c.args.note))) c.self.view_is
    (put-one c.args.slot q c.args.note n (note_for q c.self.inside.notes.entries) (note_for q c.insert.new.self.entries) (c.in-Ok.ensures.updates.0 q) is)
