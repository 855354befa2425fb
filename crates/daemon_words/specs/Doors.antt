-- The doors at which a server listens, by its words.
use Rattle.std.specs.Prelude.{ℕ, Bool, false, ◌&&◌, not, List, Option, None, Some, codes, bytes_eq, length, filter, filter_map, option_map, option_and_then, is_some}
use Rattle.std.specs.Prelude.{if◌then◌else◌}
use Rattle.std.specs.List.{list_all}
use Rattle.tardis_base.specs.Bytes.{is_within}
use Rattle.daemon_words.specs.declared.doors.DoorKind.{DoorKind}
use Rattle.daemon_words.specs.declared.doors.DoorKind.TheVariants.{All, Clients, Peers}
use Rattle.daemon_words.specs.declared.doors.DoorPlan.{DoorPlan}
use Rattle.command_words.specs.Settings.{Setting}
use Rattle.command_words.specs.Values.{is_address}

-- a door: who comes through it, and where it is
pub record DoorAt : Type 0 where
  pub kind : DoorKind
  pub address : List ℕ

-- the kind of door for which an option of this name asks
abbrev pub kind_of : List ℕ → Option DoorKind
kind_of name =
    if bytes_eq name (codes "--listen") then Some All else
    (if bytes_eq name (codes "--clients") then Some Clients else
    (if bytes_eq name (codes "--peers") then Some Peers else None))

-- an option that asks for a door
abbrev pub is_door : Setting → Bool
is_door setting = is_some (kind_of setting.0)

-- an address with more than the word that begins that of a Unix socket
abbrev pub is_door_address : List ℕ → Bool
is_door_address word = is_address word && not (bytes_eq word (codes "unix:"))

-- a value that is there and is such an address
abbrev pub has_address : Option (List ℕ) → Bool
has_address None = false
has_address (Some word) = is_door_address word

-- the door for which an option asks
abbrev pub door_of : Setting → Option DoorAt
door_of setting = option_and_then (λ kind. option_map (λ address. record { kind = kind; address = address }) setting.1) (kind_of setting.0)

-- 1 to 8 doors, each at an address
abbrev pub are_doors : List Setting → Bool
are_doors found =
    let asked = filter is_door found in
    is_within 1 8 (length asked) && list_all (λ s. has_address s.1) asked

-- the doors for which options ask, in their order
abbrev pub doors : List Setting → Option (List DoorAt)
doors found = if are_doors found then Some (filter_map door_of found) else None

-- what a door of a plan is, without its text as a value of the program
abbrev pub door_at : DoorPlan → DoorAt
door_at plan = record { kind = plan.kind; address = plan.address.now }
