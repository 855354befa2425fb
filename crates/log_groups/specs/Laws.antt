-- Laws of a server's log.
use Rattle.std.specs.Prelude.{◌≡◌, ◌⊎◌, ℕ, List, [], ◌∷◌, ◌++◌, length}
use Rattle.std.specs.List.{AllByRecursion}
use Rattle.log_text.specs.Texts.{entry, log_text, IsZeros, Mixed, Reads}
use Rattle.log_groups.specs.declared.fronts.LogFront.{LogFront}
use Rattle.log_groups.specs.declared.groups.Ending.{Ending}
use Rattle.log_groups.specs.declared.groups.Ending.TheVariants.{Whole, Torn, Damaged}
use Rattle.log_groups.specs.Items.{IsFront, IsBody, front_item, group, log_items}
use Rattle.log_groups.specs.Logs.{Holds}

-- a log that was written is read as written
abbrev pub WrittenIsHeld : Type 0
WrittenIsHeld =
    (front : LogFront) (bodies : List (List ℕ)) (zeros : List ℕ) → IsFront front → AllByRecursion IsBody bodies → IsZeros zeros
    → Holds (log_text (log_items front bodies) ++ zeros) front bodies zeros Whole

-- a log and the entry of the next group are the log with one body more
abbrev pub LogGrows : Type 0
LogGrows =
    (front : LogFront) (bodies : List (List ℕ)) (body : List ℕ)
    → log_text (log_items front bodies) ++ entry (group front.life (length bodies) body) ≡ log_text (log_items front (bodies ++ body ∷ []))

-- bytes hold one log, and end in one way
abbrev pub OneLog : Type 0
OneLog =
    (bytes : List ℕ) (front other : LogFront) (bodies others : List (List ℕ)) (rest left : List ℕ) (ending another : Ending)
    → Holds bytes front bodies rest ending → Holds bytes other others left another
    → (front ≡ other) × (bodies ≡ others) × (rest ≡ left) × (ending ≡ another)

-- bytes that begin with a front hold a log
abbrev pub EveryLog : Type 0
EveryLog =
    (front : LogFront) (more : List ℕ) → IsFront front
    → (bodies : List (List ℕ)) × ((rest : List ℕ) × ((ending : Ending) × Holds (entry (front_item front) ++ more) front bodies rest ending))

-- a log that is not damaged is what the entries of the bytes say
abbrev pub LogIsRead : Type 0
LogIsRead =
    (bytes : List ℕ) (front : LogFront) (bodies : List (List ℕ)) (rest : List ℕ) (ending : Ending)
    → Holds bytes front bodies rest ending → (ending ≡ Damaged → ⊥) → Reads bytes (log_items front bodies) rest

-- While the next group is written over zeros behind a log, a crash leaves the bodies that were there, or these and the new one;
-- and the end is whole or torn.
abbrev pub CrashIsTorn : Type 0
CrashIsTorn =
    (front : LogFront) (bodies : List (List ℕ)) (body old zeros image : List ℕ)
    → IsFront front → AllByRecursion IsBody bodies → IsBody body → IsZeros old → IsZeros zeros
    → Mixed old (entry (group front.life (length bodies) body) ++ zeros) image
    → (found : List (List ℕ)) × ((rest : List ℕ) × ((ending : Ending)
    × (Holds (log_text (log_items front bodies) ++ image) front found rest ending
    × ((found ≡ bodies) ⊎ (found ≡ bodies ++ body ∷ [])) × (ending ≡ Damaged → ⊥))))

-- While zeros are written over a torn end, a crash leaves the same bodies, and an end that is whole or torn.
abbrev pub MendKeepsLog : Type 0
MendKeepsLog =
    (bytes : List ℕ) (front : LogFront) (bodies : List (List ℕ)) (rest zeros image : List ℕ)
    → Holds bytes front bodies rest Torn → IsZeros zeros → Mixed rest zeros image
    → (ending : Ending) × (Holds (log_text (log_items front bodies) ++ image) front bodies image ending × (ending ≡ Damaged → ⊥))

-- once zeros stand over what a log ends with, torn or not, the same bodies are there, and the end is whole
abbrev pub MendedIsWhole : Type 0
MendedIsWhole =
    (bytes : List ℕ) (front : LogFront) (bodies : List (List ℕ)) (rest zeros : List ℕ) (ending : Ending)
    → Holds bytes front bodies rest ending → IsZeros zeros
    → Holds (log_text (log_items front bodies) ++ zeros) front bodies zeros Whole
