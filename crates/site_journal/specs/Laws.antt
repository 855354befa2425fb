-- Laws of the journal text.
use Rattle.std.specs.Prelude.{◌≡◌, ℕ, ◌<◌, List, [], ◌∷◌, slice_index}
use Rattle.std.specs.List.{AllByRecursion}
use Rattle.site_journal.specs.Texts.{IsEntry, journal_text, EndsAt}

-- bytes have one list of entries, which end at one place
abbrev pub OneReading : Type 0
OneReading =
    (bytes : List ℕ) (entries others : List (List ℕ)) (rest left : List ℕ)
    → EndsAt bytes entries rest → EndsAt bytes others left → (entries ≡ others) × (rest ≡ left)

-- all bytes have entries, be it none
abbrev pub EveryReading : Type 0
EveryReading =
    (bytes : List ℕ) → ((place : ℕ) → slice_index bytes place < 256)
    → (entries : List (List ℕ)) × ((rest : List ℕ) × EndsAt bytes entries rest)

-- the entries of the journal text of entries are these, and the rest is its last byte
abbrev pub TextIsRead : Type 0
TextIsRead = (entries : List (List ℕ)) → AllByRecursion IsEntry entries → EndsAt (journal_text entries) entries (0 ∷ [])
