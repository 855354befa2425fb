-- The versions of each key, the keys with a version at each state, and the room for more.
use Rattle.std.specs.Prelude.{◌≡◌, ℕ, Bool, ◌&&◌, List, nat_lt, nat_le, length}
use Rattle.std.specs.List.{list_any}
use Rattle.tardis_base.specs.declared.ids.Slot.{Slot}
use Rattle.tardis_base.specs.Keys.{KeyWrite}
use Rattle.version_list.specs.declared.histories.Version.{Version}
pub use Rattle.version_list.specs.Notes.{Chunks, same_slot, is_key_in}
use Rattle.version_list.specs.Notes.{Noted, chunks_for, is_noted_in}
pub use Rattle.version_list.specs.Lists.{new_keys, version_by, have_come_before, are_in_order}
use Rattle.version_list.specs.Lists.{Lists, keys_in, versions_in, has_room_in, have_room_in, AllInOrder, AllBefore}

-- the versions of the listed keys, the keys noted for each state, and for how many keys of the next state there is room
pub record Versions : Type 0 where
  pub lists : Lists
  pub notes : Noted
  pub keys : ℕ

abbrev pub listed_keys : Versions → List (List ℕ)
listed_keys vs = keys_in vs.lists

-- the versions of the key as they arrived; none where it isn't listed
abbrev pub versions_of : Versions → List ℕ → List Version
versions_of vs k = versions_in vs.lists k

-- the key is listed, with room for one more version
abbrev pub has_room : Versions → List ℕ → Bool
has_room vs k = has_room_in vs.lists k

-- there is room for one more state with these writes
abbrev pub has_room_for : Versions → List KeyWrite → Bool
has_room_for vs ws = nat_lt 0 vs.notes.states && nat_lt 0 vs.notes.chunks && nat_le (length ws) vs.keys && have_room_in vs.lists ws

-- the versions of each key stand in order
abbrev pub IsInOrder : (Slot → Bool) → (Slot → ℕ) → Versions → Type 0
IsInOrder kept arrival vs = AllInOrder kept arrival vs.lists

-- every version arrived before the state
abbrev pub IsBefore : (Slot → ℕ) → Slot → Versions → Type 0
IsBefore arrival slot vs = AllBefore arrival slot vs.lists

-- one of these versions is at the state
abbrev pub has_version_at : Slot → List Version → Bool
has_version_at slot vs = list_any (λ v. same_slot v.slot slot) vs

-- something was noted for the state, were it no key at all
abbrev pub is_noted : Versions → Slot → Bool
is_noted vs slot = is_noted_in slot vs.notes.by_slot

-- for each state exactly the keys are noted that have a version there
abbrev pub AreNoted : Lists → List (Slot × Chunks) → Type 0
AreNoted ls es = (slot : Slot) (k : List ℕ) → is_key_in k (chunks_for slot es) ≡ has_version_at slot (versions_in ls k)
