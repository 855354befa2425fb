-- The text of a log without zeros, and the items that stand in bytes.
use Rattle.std.specs.Prelude.{◌≡◌, ◌⊎◌, ℕ, ◌-◌, ◌≤◌, ◌≢◌, ◌&&◌, if◌then◌else◌, Bool, nat_eq, nat_le, List, [], ◌∷◌, ◌++◌, length, flat_map}
use Rattle.std.specs.List.{AllByRecursion}
use Rattle.tardis_base.specs.Sizes.{longest_frame}

abbrev pub IsItem : List ℕ → Type 0
IsItem item = length item ≤ longest_frame

-- 245 stands for a zero, 246 says that the next byte names a mark, and 247 ends an entry; no UTF-8 text has these three
abbrev pub is_mark : ℕ → Bool
is_mark byte = nat_le 245 byte && nat_le byte 247

-- a byte of an item, spelled without a zero
abbrev pub spelled : ℕ → List ℕ
spelled byte = if nat_eq byte 0 then 245 ∷ [] else if is_mark byte then 246 ∷ (byte - 244) ∷ [] else byte ∷ []

-- an item, spelled without a zero
abbrev pub coded : List ℕ → List ℕ
coded item = flat_map spelled item

-- an item and the byte that ends it
abbrev pub entry : List ℕ → List ℕ
entry item = coded item ++ 247 ∷ []

-- entries, one after another
abbrev pub log_text : List (List ℕ) → List ℕ
log_text items = flat_map entry items

abbrev pub HasNoZero : List ℕ → Type 0
HasNoZero bytes = AllByRecursion (λ byte. byte ≢ 0) bytes

abbrev pub IsZeros : List ℕ → Type 0
IsZeros bytes = AllByRecursion (λ byte. byte ≡ 0) bytes

-- what a crash may leave while new bytes are written over old ones: of each byte the old one or the new one
abbrev pub Mixed : List ℕ → List ℕ → List ℕ → Type 0
Mixed [] [] [] = Unit {0}
Mixed (a ∷ old) (b ∷ new) (c ∷ image) = ((c ≡ a) ⊎ (c ≡ b)) × Mixed old new image
Mixed _ _ _ = ⊥

-- no whole entry is next
abbrev pub HasNoEntry : List ℕ → Type 0
HasNoEntry bytes = (item more : List ℕ) → IsItem item → bytes ≡ entry item ++ more → ⊥

-- the items of bytes: those whose entries stand whole at the front, up to where no whole entry is next
pub record Reads (bytes : List ℕ) (items : List (List ℕ)) (rest : List ℕ) : Type 0 where
  pub whole : bytes ≡ log_text items ++ rest
  pub each : AllByRecursion IsItem items
  pub ends : HasNoEntry rest
