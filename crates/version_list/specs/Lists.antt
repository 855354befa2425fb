-- The lists of versions, one for each listed key.
use Rattle.std.specs.Prelude.{ℕ, Bool, true, false, ◌&&◌, not, List, [], ◌∷◌, ◌++◌, Option, Some, None, nat_lt, map, filter, if◌then◌else◌, IsTrue, bytes_eq}
use Rattle.std.specs.List.{list_all}
use Rattle.std.specs.Map.{lookup}
use Rattle.std.specs.Option.{option_map_or}
use Rattle.tardis_base.specs.declared.ids.Slot.{Slot}
use Rattle.tardis_base.specs.declared.ids.StateId.{StateId}
use Rattle.tardis_base.specs.declared.records.Write.{Write}
use Rattle.tardis_base.specs.Keys.{KeyWrite, is_key_among, keys_of}
use Rattle.version_list.specs.declared.histories.Version.{Version}

-- the versions of one key as they arrived, and how many more there is room for
pub record Listed : Type 0 where
  pub versions : List Version
  pub room : ℕ

-- the listed keys, each with its versions
pub record Lists : Type 0 where
  pub lists : List (List ℕ × Listed)

-- nothing is listed
abbrev pub no_lists : Lists
no_lists = record { lists = [] }

abbrev pub keys_in : Lists → List (List ℕ)
keys_in vs = map (λ l. l.0) vs.lists

-- these keys with the key behind them, if it isn't one of them
abbrev pub with_listed : List ℕ → List (List ℕ) → List (List ℕ)
with_listed k ks = if is_key_among k ks then ks else ks ++ k ∷ []

-- those of the written keys that are none of these, in their order
abbrev pub new_keys : List (List ℕ) → List KeyWrite → List (List ℕ)
new_keys ks ws = filter (λ k. not (is_key_among k ks)) (keys_of ws)

-- what is listed for the key, if it is
abbrev pub listed_in : Lists → List ℕ → Option Listed
listed_in vs k = lookup (bytes_eq k) vs.lists

-- the versions of the key as they arrived; none where it isn't listed
abbrev pub versions_in : Lists → List ℕ → List Version
versions_in vs k = option_map_or (λ l. l.versions) (listed_in vs k) []

-- the key is listed, with room for one more version
abbrev pub has_room_in : Lists → List ℕ → Bool
has_room_in vs k = option_map_or (λ l. nat_lt 0 l.room) (listed_in vs k) false

-- there is room for one more version of each key that is written
abbrev pub have_room_in : Lists → List KeyWrite → Bool
have_room_in vs ws = list_all (λ w. has_room_in vs w.0) ws

-- the version that a state's write makes; none where the state doesn't write
abbrev pub version_by : Slot → StateId → Option Write → List Version
version_by slot writer None = []
version_by slot writer (Some w) = record { slot = slot; writer = writer; write = w } ∷ []

-- each of these arrived before the state
abbrev pub have_come_before : (Slot → ℕ) → Slot → List Version → Bool
have_come_before arrival slot vs = list_all (λ v. nat_lt (arrival v.slot) (arrival slot)) vs

-- each of these is at a kept state, which arrived before those of all behind it
abbrev pub are_in_order : (Slot → Bool) → (Slot → ℕ) → List Version → Bool
are_in_order kept arrival [] = true
are_in_order kept arrival (v ∷ vs) =
    kept v.slot && list_all (λ w. nat_lt (arrival v.slot) (arrival w.slot)) vs && are_in_order kept arrival vs

-- the versions of each key stand in order
abbrev pub AllInOrder : (Slot → Bool) → (Slot → ℕ) → Lists → Type 0
AllInOrder kept arrival vs = (k : List ℕ) → IsTrue (are_in_order kept arrival (versions_in vs k))

-- every version arrived before the state
abbrev pub AllBefore : (Slot → ℕ) → Slot → Lists → Type 0
AllBefore arrival slot vs = (k : List ℕ) → IsTrue (have_come_before arrival slot (versions_in vs k))
