-- What is noted of the children of states.
use Rattle.std.specs.Prelude.{◌≡◌, ℕ, ◌≤◌, Bool, false, ◌&&◌, List, length, take, Option, Some, IsTrue}
use Rattle.std.specs.List.{list_all}
use Rattle.std.specs.Map.{lookup}
use Rattle.std.specs.Option.{option_map_or}
use Rattle.tardis_base.specs.declared.ids.StateId.{StateId}
use Rattle.tardis_base.specs.declared.ids.Slot.{Slot}
use Rattle.tardis_base.specs.Ids.{same_id}
use Rattle.state_dag.specs.Table.{Table, id_at, only_parent_at, child_slots_at}
use Rattle.version_list.specs.Versions.{Versions, versions_of, same_slot, has_version_at}
use Rattle.record_store.specs.declared.child_notes.ChildNote.{ChildNote}

-- what is noted of the state at the slot, if anything is
abbrev pub note_for : Slot → List (Slot × ChildNote) → Option ChildNote
note_for slot notes = lookup (same_slot slot) notes

-- the state at the slot has x as its only parent, and a version of the key
abbrev pub is_child_with : Table → Versions → StateId → List ℕ → Slot → Bool
is_child_with table vs x k slot = option_map_or (same_id x) (only_parent_at table slot) false && has_version_at slot (versions_of vs k)

-- so many of the first children of the state at the slot have it as their only parent, and a version of the key
pub record IsTrueNote (table : Table) (vs : Versions) (slot : Slot) (note : ChildNote) : Type 0 where
  pub within : note.count ≤ length (child_slots_at table slot)
  pub holds : (x : StateId) → id_at table slot ≡ Some x → IsTrue (list_all (is_child_with table vs x note.key) (take note.count (child_slots_at table slot)))

-- all that is noted is so
abbrev pub AreTrueNotes : Table → Versions → List (Slot × ChildNote) → Type 0
AreTrueNotes table vs notes = (slot : Slot) (note : ChildNote) → note_for slot notes ≡ Some note → IsTrueNote table vs slot note

-- the slot is another one than this, and isn't that of the only parent of the state there
pub record IsApart (table : Table) (gone slot : Slot) : Type 0 where
  pub other : slot ≡ gone → ⊥
  pub no_parent : (x : StateId) → only_parent_at table gone ≡ Some x → id_at table slot ≡ Some x → ⊥
