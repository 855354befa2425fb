-- A state that is kept, or why nothing is told of it.
use Rattle.std.specs.Prelude.{◌≡◌, [], ◌∷◌, Some, Result, Ok, Err}
use Rattle.tardis_base.specs.declared.ids.StateId.{StateId}
use Rattle.tardis_base.specs.declared.ids.Slot.{Slot}
use Rattle.state_dag.specs.Table.{Table, id_at}
use Rattle.plain_site.specs.Site.{Site}
use Rattle.plain_questions.specs.declared.questions.Denial.{Denial}
use Rattle.plain_questions.specs.declared.questions.Answered.{Answered}
use Rattle.plain_questions.specs.declared.questions.Answered.TheVariants.{Refused}
use Rattle.plain_questions.specs.Answer.{of_kept}

-- whatever is asked of the state, this is why it isn't told
abbrev pub IsDenied : Site → StateId → Denial → Type 0
IsDenied site x why = (told : Answered) → of_kept site (x ∷ []) told ≡ Refused why

-- the state is kept at the slot, and whatever is asked of it is told; or this is why it isn't
abbrev pub FindsKept : Table → Site → StateId → Result Slot Denial → Type 0
FindsKept table site x (Ok slot) = (id_at table slot ≡ Some x) × ((told : Answered) → of_kept site (x ∷ []) told ≡ told)
FindsKept table site x (Err why) = IsDenied site x why
