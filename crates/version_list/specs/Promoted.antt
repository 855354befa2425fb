-- The versions of a key once a state gives up its slot, and another one stands in for it.
use Rattle.std.specs.Prelude.{ℕ, Bool, not, ◌&&◌, List, [], ◌∷◌, Option, None, Some, find, filter, nat_lt, if◌then◌else◌}
use Rattle.tardis_base.specs.declared.ids.Slot.{Slot}
use Rattle.version_list.specs.declared.histories.Version.{Version}
use Rattle.version_list.specs.Versions.{same_slot, has_version_at}

-- the version at the state, if there is one
abbrev pub version_at : Slot → List Version → Option Version
version_at slot vs = find (λ v. same_slot v.slot slot) vs

-- the versions but for that at the state
abbrev pub without_version : Slot → List Version → List Version
without_version slot vs = filter (λ v. not (same_slot v.slot slot)) vs

-- the version, kept at another state
abbrev pub at_state : Slot → Version → Version
at_state slot v = record { slot = slot; writer = v.writer; write = v.write }

-- the version among these in its place by arrival
abbrev pub in_its_place : (Slot → ℕ) → Version → List Version → List Version
in_its_place arrival v [] = v ∷ []
in_its_place arrival v (w ∷ ws) = if nat_lt (arrival v.slot) (arrival w.slot) then v ∷ w ∷ ws else w ∷ in_its_place arrival v ws

-- what becomes of these once the one version is gone: the other state gets it, unless it has a version of its own
abbrev pub handed_on : (Slot → ℕ) → Slot → List Version → Option Version → List Version
handed_on arrival to vs None = vs
handed_on arrival to vs (Some v) = if has_version_at to vs then vs else in_its_place arrival (at_state to v) vs

-- the versions of a key once what the one state has went to the other, or is gone where that has the key
abbrev pub promoted : (Slot → ℕ) → Slot → Slot → List Version → List Version
promoted arrival from to vs = handed_on arrival to (without_version from vs) (version_at from vs)

-- that, where this is so; the versions as they were where it isn't
abbrev pub promoted_if : Bool → (Slot → ℕ) → Slot → Slot → List Version → List Version
promoted_if b arrival from to vs = if b then promoted arrival from to vs else vs

-- there is a version at the one state, and none at the other
abbrev pub moves : Slot → Slot → List Version → Bool
moves from to vs = has_version_at from vs && not (has_version_at to vs)
