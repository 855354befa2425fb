-- What is read of a key's versions.
use Rattle.std.specs.Prelude.{ℕ, Bool, List, [], ◌∷◌, Option, Some, None, nat_lt, filter, if◌then◌else◌}
use Rattle.tardis_base.specs.declared.ids.Slot.{Slot}
use Rattle.tardis_base.specs.declared.ids.StateId.{StateId}
use Rattle.tardis_base.specs.declared.records.Write.{Write}
use Rattle.tardis_base.specs.declared.records.Write.TheVariants.{Put, Delete}
use Rattle.tardis_base.specs.declared.readings.Found.{Found}
use Rattle.tardis_base.specs.declared.readings.Found.TheVariants.{Value, Deleted, Absent}
use Rattle.version_list.specs.declared.histories.Version.{Version}

-- the later of two versions by arrival, if there are two
abbrev pub later_of : (Slot → ℕ) → Version → Option Version → Version
later_of arrival v None = v
later_of arrival v (Some w) = if nat_lt (arrival v.slot) (arrival w.slot) then w else v

-- the one of these that arrived last
abbrev pub last_arrived : (Slot → ℕ) → List Version → Option Version
last_arrived arrival [] = None
last_arrived arrival (v ∷ vs) = Some (later_of arrival v (last_arrived arrival vs))

-- of the versions at or above the state the one that arrived last
abbrev pub latest_version : (Slot → Slot → Bool) → (Slot → ℕ) → List Version → Slot → Option Version
latest_version above arrival vs at = last_arrived arrival (filter (λ v. above v.slot at) vs)

-- who wrote the version, and what
abbrev pub written : Version → StateId × Write
written v = (v.writer, v.write)

-- who wrote what was found, and what; nothing where it is absent
abbrev pub found : Found → Option (StateId × Write)
found (Value writer value) = Some (writer, Put value.now)
found (Deleted writer) = Some (writer, Delete)
found Absent = None
