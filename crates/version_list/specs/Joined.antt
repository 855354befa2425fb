-- The versions of a key once those of one state went to another, whichever of the two arrived first.
use Rattle.std.specs.Prelude.{ℕ, ◌<◌, ◌≤◌, Bool, List, map, nat_lt, if◌then◌else◌, IsTrue}
use Rattle.tardis_base.specs.declared.ids.Slot.{Slot}
use Rattle.version_list.specs.declared.histories.Version.{Version}
use Rattle.version_list.specs.Versions.{same_slot, has_version_at}
use Rattle.version_list.specs.Promoted.{at_state, without_version, promoted}

-- the version, at the other state where it was at the one
abbrev pub moved_from : Slot → Slot → Version → Version
moved_from from to v = if same_slot v.slot from then at_state to v else v

-- the versions once what the one state has took the place of what the other has, which arrived before it
abbrev pub taken_over : Slot → Slot → List Version → List Version
taken_over from to vs = if has_version_at from vs then map (moved_from from to) (without_version to vs) else vs

-- the versions once what the one state has went to the other; where both have the key the newer one is left
abbrev pub joined : (Slot → ℕ) → Slot → Slot → List Version → List Version
joined arrival from to vs = if nat_lt (arrival to) (arrival from) then taken_over from to vs else promoted arrival from to vs

-- that, where this is so; the versions as they were where it isn't
abbrev pub joined_if : Bool → (Slot → ℕ) → Slot → Slot → List Version → List Version
joined_if b arrival from to vs = if b then joined arrival from to vs else vs

-- if the one state arrived after the other, no kept state arrived between them
abbrev pub IsNextIfNewer : (Slot → Bool) → (Slot → ℕ) → Slot → Slot → Type 0
IsNextIfNewer kept arrival from to = arrival to < arrival from → (s : Slot) → IsTrue (kept s) → arrival to < arrival s → arrival from ≤ arrival s
