-- Laws of the log.
use Rattle.std.specs.Prelude.{◌≡◌, ◌⊎◌, List, ℕ, [], ◌∷◌, ◌++◌}
use Rattle.std.specs.List.{AllByRecursion}
use Rattle.log_text.specs.Texts.{IsItem, entry, log_text, HasNoZero, IsZeros, Mixed, Reads}

-- the text of a log has no zero
abbrev pub TextHasNoZero : Type 0
TextHasNoZero = (items : List (List ℕ)) → HasNoZero (log_text items)

-- the items of a log's text before zeros are these
abbrev pub TextIsRead : Type 0
TextIsRead =
    (items : List (List ℕ)) (zeros : List ℕ) → AllByRecursion IsItem items → IsZeros zeros → Reads (log_text items ++ zeros) items zeros

-- While more entries are written over zeros behind a log's text, a crash leaves the items that were there, and a front of
-- those that were to come.
abbrev pub CrashLeavesFront : Type 0
CrashLeavesFront =
    (items more found : List (List ℕ)) (old zeros image rest : List ℕ)
    → AllByRecursion IsItem items → IsZeros old → IsZeros zeros → Mixed old (log_text more ++ zeros) image
    → Reads (log_text items ++ image) found rest
    → (front later : List (List ℕ)) × (found ≡ items ++ front) × (more ≡ front ++ later)

-- once all are written, all are there
abbrev pub AllIsRead : Type 0
AllIsRead =
    (items more : List (List ℕ)) (zeros : List ℕ) → AllByRecursion IsItem items → AllByRecursion IsItem more → IsZeros zeros
    → Reads (log_text items ++ log_text more ++ zeros) (items ++ more) zeros

-- two readings of the same bytes are one
abbrev pub OneReading : Type 0
OneReading =
    (bytes : List ℕ) (items others : List (List ℕ)) (rest left : List ℕ)
    → Reads bytes items rest → Reads bytes others left → (items ≡ others) × (rest ≡ left)

-- all bytes have a reading, be it of no item
abbrev pub EveryReading : Type 0
EveryReading = (bytes : List ℕ) → (items : List (List ℕ)) × ((rest : List ℕ) × Reads bytes items rest)

-- while what stands behind the whole entries is overwritten by zeros, a crash leaves the same items
abbrev pub MendKeepsItems : Type 0
MendKeepsItems =
    (bytes : List ℕ) (items : List (List ℕ)) (rest zeros image : List ℕ)
    → Reads bytes items rest → IsZeros zeros → Mixed rest zeros image → Reads (log_text items ++ image) items image

-- what stands behind a zero is never read: so room may grow there, whatever a crash leaves of it
abbrev pub ZeroEnds : Type 0
ZeroEnds =
    (front behind other : List ℕ) (items : List (List ℕ)) (rest : List ℕ)
    → Reads (front ++ 0 ∷ behind) items rest → (left : List ℕ) × Reads (front ++ 0 ∷ other) items left

-- While one entry is written over zeros, a crash leaves only zeros behind a byte 247 that stands behind the whole entries. So
-- bytes in which another byte stands there were damaged otherwise.
abbrev pub TornEndIsLast : Type 0
TornEndIsLast =
    (items found : List (List ℕ)) (item old zeros image rest front behind : List ℕ)
    → AllByRecursion IsItem items → IsZeros old → IsZeros zeros → Mixed old (entry item ++ zeros) image
    → Reads (log_text items ++ image) found rest → rest ≡ front ++ 247 ∷ behind → IsZeros behind

-- more writes before a sync: each leaves of its own bytes the old or the new ones
abbrev pub MixedParts : Type 0
MixedParts =
    (old new image later_old later_new later_image : List ℕ) → Mixed old new image → Mixed later_old later_new later_image
    → Mixed (old ++ later_old) (new ++ later_new) (image ++ later_image)

-- while one entry is written, a crash leaves all of it or none
abbrev pub AllOrNone : Type 0
AllOrNone =
    (items found : List (List ℕ)) (item old zeros image rest : List ℕ)
    → AllByRecursion IsItem items → IsZeros old → IsZeros zeros → Mixed old (entry item ++ zeros) image
    → Reads (log_text items ++ image) found rest → (found ≡ items) ⊎ (found ≡ items ++ item ∷ [])
