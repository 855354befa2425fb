-- What is read of a log, step by step.
use Rattle.std.specs.Prelude.{◌≡◌, ◌⊎◌, ℕ, ◌≤◌, List, ◌++◌, length, take, drop}
use Rattle.std.specs.Int.{w16, from_be_bytes}
use Rattle.log_text.specs.Texts.{IsItem, entry, HasNoEntry}
use Rattle.log_groups.specs.declared.fronts.LogFront.{LogFront}
use Rattle.log_groups.specs.declared.readers.FirstItem.{FirstItem}
use Rattle.log_groups.specs.declared.readers.FirstItem.TheVariants.{Front, NotALog, OtherVersion, BadFront}
use Rattle.log_groups.specs.declared.readers.NextGroup.{NextGroup}
use Rattle.log_groups.specs.declared.readers.NextGroup.TheVariants.{Group, End}
use Rattle.log_groups.specs.Items.{log_name, log_version, IsFront, front_item, IsBody, group}
use Rattle.log_groups.specs.Logs.{Ends}

-- the name of the format and this version stand at the beginning of an item
pub record IsNamed (version : ℕ) (item : List ℕ) : Type 0 where
  pub long : 10 ≤ length item
  pub name : take 8 item ≡ log_name
  pub number : from_be_bytes w16 (take 2 (drop 8 item)) ≡ version

-- what an item that stands first is: a front, whose entry has so many bytes; none of this format; one of another version; or
-- one of this version, but no front
abbrev pub IsItemFirst : List ℕ → ℕ → FirstItem → Type 0
IsItemFirst item size (Front f count) = IsFront f × (item ≡ front_item f) × (count ≡ size)
IsItemFirst item size NotALog = (version : ℕ) → IsNamed version item → ⊥
IsItemFirst item size (OtherVersion version) = (version ≡ log_version → ⊥) × IsNamed version item
IsItemFirst item size BadFront = IsNamed log_version item × ((f : LogFront) → IsFront f → item ≡ front_item f → ⊥)

-- what stands first in bytes: such an item, or no entry
abbrev pub IsFirst : List ℕ → FirstItem → Type 0
IsFirst bytes first =
    (HasNoEntry bytes × (first ≡ NotALog))
    ⊎ ((item : List ℕ) × ((size : ℕ) × (IsItem item × (size ≤ length bytes) × (bytes ≡ entry item ++ drop size bytes) × IsItemFirst item size first)))

-- the group of this number, whose entry has so many bytes, or how the log ends
abbrev pub IsNextGroup : List ℕ → ℕ → List ℕ → List ℕ → NextGroup → Type 0
IsNextGroup life number bytes body (Group size) = IsBody body × (size ≤ length bytes) × (bytes ≡ entry (group life number body) ++ drop size bytes)
IsNextGroup life number bytes body (End ending) = Ends life number bytes ending
