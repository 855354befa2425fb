-- What stands at the front of bytes.
use Rattle.std.specs.Prelude.{◌≡◌, ℕ, ◌≤◌, List, ◌∷◌, ◌++◌, length, drop, Option, Some, None}
use Rattle.log_text.specs.declared.fronts.Front.{Front}
use Rattle.log_text.specs.declared.fronts.Front.TheVariants.{End, Byte, Stop}
use Rattle.log_text.specs.Texts.{IsItem, spelled, entry, HasNoEntry}

-- neither a spelled byte nor the byte that ends an entry is next
abbrev pub Stops : List ℕ → Type 0
Stops bytes = ((rest : List ℕ) → bytes ≡ 247 ∷ rest → ⊥) × ((byte : ℕ) (rest : List ℕ) → bytes ≡ spelled byte ++ rest → ⊥)

-- what is next
abbrev pub IsFront : List ℕ → Front → Type 0
IsFront bytes End = (1 ≤ length bytes) × (bytes ≡ 247 ∷ drop 1 bytes)
IsFront bytes (Byte byte width) = (1 ≤ width) × (width ≤ length bytes) × (bytes ≡ spelled byte ++ drop width bytes)
IsFront bytes Stop = Stops bytes

-- the item of the whole entry that is next, which has so many bytes, or none
abbrev pub IsNext : List ℕ → List ℕ → Option ℕ → Type 0
IsNext bytes item (Some count) = IsItem item × (count ≤ length bytes) × (bytes ≡ entry item ++ drop count bytes)
IsNext bytes item None = HasNoEntry bytes
