-- How an import ends.
use Rattle.std.specs.Prelude.{◌≡◌, ℕ, ◌<◌, Bool, true, false, List, [], ◌++◌, length, Option, Result, Ok, Err}
use Rattle.tardis_io.specs.declared.statuses.Status.{Status}
use Rattle.tardis_io.specs.declared.statuses.Status.TheVariants.{Ok as Well, ReadFault, WriteFault, NoMemory, Spent, BadExport}
use Rattle.tardis_io.specs.Told.{WhileTold}
use Rattle.site_run.specs.Endings.{most_taken}
use Rattle.branch_export.specs.declared.inputs.InputFault.{InputFault}
use Rattle.branch_export.specs.declared.inputs.InputFault.TheVariants.{ReadFault as NotRead, NoMemory as OutOfMemory, Spent as TooLong}
use Rattle.branch_export.specs.Exports.{Entry, IsExport}
use Rattle.branch_export.specs.Scripts.{script_frames}
use Rattle.branch_export.specs.Exported.{IsFrontGiven}

-- the bytes are no export
abbrev pub IsNone : List ℕ → Type 0
IsNone bytes = (es : List Entry) → IsExport bytes es → ⊥

-- the bytes are an export, and the frames of its script were given, as the shape says
abbrev pub Scripted : (List ℕ → List ℕ → List ℕ → Type 0) → Option (List ℕ) → Option (List ℕ) → List ℕ → Type 0
Scripted shape old new bytes = (es : List Entry) × IsExport bytes es × WhileTold old new (λ before after. shape before after (script_frames es))

-- all bytes
abbrev pub IsGiven : List ℕ → List ℕ → List ℕ → Type 0
IsGiven before after bytes = after ≡ before ++ bytes

-- What each end says of what was read, where it was read to its end; of how much was read; and of what was given.
abbrev pub ImportEnds : Status → Option (List ℕ) → Option (List ℕ) → List ℕ → List ℕ → Type 0
ImportEnds Well old new taken left = (left ≡ []) × (length taken < most_taken) × Scripted IsGiven old new taken
ImportEnds WriteFault old new taken left = (left ≡ []) × (length taken < most_taken) × Scripted IsFrontGiven old new taken
ImportEnds BadExport old new taken left = (left ≡ []) × (length taken < most_taken) × IsNone taken × (new ≡ old)
ImportEnds ReadFault old new taken left = (length taken < most_taken) × (new ≡ old)
ImportEnds Spent old new taken left = (length taken ≡ most_taken) × (new ≡ old)
ImportEnds NoMemory old new taken left = new ≡ old
ImportEnds _ old new taken left = ⊥

-- What an import did, by what was left of its input at first and is left now: these bytes were taken from the front of it, and
-- it ended so.
pub record Imported (status : Status) (old new : Option (List ℕ)) (first left : List ℕ) : Type 0 where
  pub taken : List ℕ
  pub read : first ≡ taken ++ left
  pub ends : ImportEnds status old new taken left

-- how an import ends over these bytes where no fault came and they are few enough: it is for them, unless there was no memory
abbrev pub ImportsAs : List ℕ → Status → Type 0
ImportsAs bytes Well = (es : List Entry) × IsExport bytes es
ImportsAs bytes BadExport = IsNone bytes
ImportsAs bytes NoMemory = Unit {0}
ImportsAs bytes _ = ⊥

-- the ends that an import may have
abbrev pub IsImportEnd : Status → Type 0
IsImportEnd Well = Unit {0}
IsImportEnd ReadFault = Unit {0}
IsImportEnd WriteFault = Unit {0}
IsImportEnd NoMemory = Unit {0}
IsImportEnd Spent = Unit {0}
IsImportEnd BadExport = Unit {0}
IsImportEnd _ = ⊥

-- the ends after which something may have been given
abbrev pub has_given : Status → Bool
has_given Well = true
has_given WriteFault = true
has_given _ = false

-- what was taken of an input, and how its reading ended: all of it, or with a fault
abbrev pub ReadEnds : {V : Type 0} → (V → List ℕ) → Result V InputFault → List ℕ → List ℕ → Type 0
ReadEnds shown (Ok bytes) taken left = (taken ≡ shown bytes) × (left ≡ []) × (length taken < most_taken)
ReadEnds shown (Err NotRead) taken left = length taken < most_taken
ReadEnds shown (Err TooLong) taken left = length taken ≡ most_taken
ReadEnds shown (Err OutOfMemory) taken left = Unit {0}

abbrev pub IsRead : {V : Type 0} → (V → List ℕ) → Result V InputFault → List ℕ → List ℕ → Type 0
IsRead shown result first left = (taken : List ℕ) × (first ≡ taken ++ left) × ReadEnds shown result taken left
