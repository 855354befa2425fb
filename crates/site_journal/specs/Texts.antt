-- The text of a journal, and the entries that stand in bytes.
use Rattle.std.specs.Prelude.{◌≡◌, ℕ, ◌<◌, ◌≤◌, List, [], ◌∷◌, ◌++◌, length, ◌⊎◌}
use Rattle.std.specs.Int.{w16, to_be_bytes}
use Rattle.std.specs.List.{AllByRecursion}
use Rattle.tardis_base.specs.Sizes.{longest_frame}
use Rattle.tardis_base.specs.Plain.{Event}
use Rattle.frame_cut.specs.Frames.{frame}

-- an entry: a body of a frame with an actor and a request
abbrev pub IsEntry : List ℕ → Type 0
IsEntry body = (2 ≤ length body) × (length body ≤ longest_frame)

-- the entry of an event: the actor, high byte first, and the request
abbrev pub entry_of : Event → List ℕ
entry_of e = to_be_bytes w16 e.0 ++ e.1

-- the frame of each entry, behind a byte 1
abbrev pub marked : List (List ℕ) → List ℕ
marked [] = []
marked (entry ∷ entries) = 1 ∷ (frame entry ++ marked entries)

-- the journal text of the entries: a byte 0 ends it
abbrev pub journal_text : List (List ℕ) → List ℕ
journal_text entries = marked entries ++ 0 ∷ []

-- The entries that stand in the bytes from their front, and the rest from the place where they end: there no byte 1 with the
-- frame of an entry, and a byte behind it, is next. A byte stands behind the last entry too.
pub record EndsAt (bytes : List ℕ) (entries : List (List ℕ)) (rest : List ℕ) : Type 0 where
  pub whole : bytes ≡ marked entries ++ rest
  pub each : AllByRecursion IsEntry entries
  pub behind : (entries ≡ []) ⊎ (0 < length rest)
  pub ends : (entry more : List ℕ) → rest ≡ 1 ∷ (frame entry ++ more) → IsEntry entry → more ≡ []

-- these are the entries of the bytes
abbrev pub HasEntries : List (List ℕ) → List ℕ → Type 0
HasEntries entries bytes = (rest : List ℕ) × EndsAt bytes entries rest

-- the entries so far, or these and some more, all of them
abbrev pub HasAllOrNone : List (List ℕ) → List (List ℕ) → List ℕ → Type 0
HasAllOrNone entries more bytes = HasEntries entries bytes ⊎ HasEntries (entries ++ more) bytes
