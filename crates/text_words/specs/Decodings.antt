-- Bytes that are read into room.
use Rattle.std.specs.Prelude.{◌≡◌, ℕ, ◌<◌, ◌≤◌, List, Option, Some, None, length, take}

-- so many bytes of the room are those that were read; else none were, or more than the room holds
abbrev pub IsDecoded : Option (List ℕ) → List ℕ → List ℕ → Option ℕ → Type 0
IsDecoded read old new None = (bytes : List ℕ) → read ≡ Some bytes → length old < length bytes
IsDecoded read old new (Some n) = (n ≤ length new) × (read ≡ Some (take n new))
