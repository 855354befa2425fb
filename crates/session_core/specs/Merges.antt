-- The merge of a session, and what is asked of it.
use Rattle.std.specs.Prelude.{◌≡◌, ⊤, ℕ, true, false, not, ◌==◌, List, Some, None, Result, Ok, Err}
use Rattle.tardis_base.specs.declared.ids.StateId.{StateId}
use Rattle.tardis_base.specs.declared.ids.Slot.{Slot}
use Rattle.tardis_base.specs.declared.replies.Refusal.{Refusal}
use Rattle.tardis_base.specs.declared.replies.Refusal.TheVariants.{WrongMode, OpenConflict}
use Rattle.tardis_base.specs.declared.requests.EndFlags.{EndFlags}
use Rattle.tardis_base.specs.Keys.{KeyWrite}
use Rattle.plain_dag.specs.Conflicts.{open_conflict}
use Rattle.plain_dag.specs.Floors.{Session}
use Rattle.plain_site.specs.Site.{Site, SingleTxn, Txn, Single}
use Rattle.plain_site.specs.Answers.{Answer, refused, with_txn}
use Rattle.site_answers.specs.declared.stops.Stop.{Stop}
use Rattle.site_answers.specs.declared.stops.Stop.TheVariants.{Refused, NoMemory}

-- it is asked of merges alone
abbrev pub OnlyOfMerges : Site → (Session → Txn → Answer) → Type 0
OnlyOfMerges site go = (s : Session) (t : SingleTxn) → go s (Single t) ≡ refused site WrongMode

-- whatever is asked of a merge is refused with this
abbrev pub RefusesMerges : Site → ℕ → Refusal → Type 0
RefusesMerges site n refusal = (go : Session → Txn → Answer) → OnlyOfMerges site go → with_txn site n go ≡ refused site refusal

-- the merge of these states may commit; or it is given end constraints; or it leaves this conflict key unwritten
abbrev pub MayMerge : Site → List StateId → List KeyWrite → EndFlags → Result (List Slot) Stop → Type 0
MayMerge site xs ws flags (Ok slots) = (not (flags.0 == 0) ≡ false) × (open_conflict site.dag xs ws ≡ None)
MayMerge site xs ws flags (Err (Refused WrongMode)) = not (flags.0 == 0) ≡ true
MayMerge site xs ws flags (Err (Refused (OpenConflict k))) = (not (flags.0 == 0) ≡ false) × (open_conflict site.dag xs ws ≡ Some k)
MayMerge site xs ws flags (Err (Refused refusal)) = ⊥
MayMerge site xs ws flags (Err NoMemory) = ⊤
