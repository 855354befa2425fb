-- Which of the latest writers of a key at several states is below the others.
use Rattle.std.specs.Prelude.{◌≡◌, ℕ, Bool, true, List, [], Option, Some, None, IsTrue, if◌then◌else◌}
use Rattle.std.specs.Option.{option_map, option_and_then}
use Rattle.tardis_base.specs.declared.ids.StateId.{StateId}
use Rattle.tardis_base.specs.declared.ids.Slot.{Slot}
use Rattle.tardis_base.specs.declared.records.Record.{Record}
use Rattle.tardis_base.specs.Ids.{is_among}
use Rattle.plain_dag.specs.Writers.{lowest}
use Rattle.plain_dag.specs.Conflicts.{latest_writers, is_conflict_key}
use Rattle.plain_dag.specs.Collection.{stand_in}
use Rattle.state_dag.specs.Table.{Table, id_at, is_slot_above}
use Rattle.conflict_keys.specs.declared.joins.Joined.{Joined}
use Rattle.conflict_keys.specs.declared.joins.Joined.TheVariants.{Absent, At, Split}

-- the second of these slots where the first is at or above it, and else the first
abbrev pub lower_slot : Table → Option Slot → Option Slot → Option Slot
lower_slot table None second = second
lower_slot table (Some a) None = Some a
lower_slot table (Some a) (Some b) = if is_slot_above table a b then Some b else Some a

-- the slot, if there is one, is at or above the other
abbrev pub is_above_or_none : Table → Option Slot → Slot → Bool
is_above_or_none table None other = true
is_above_or_none table (Some slot) other = is_slot_above table slot other

-- one of these states, and the only one that may have all the others at or above it; there are none where it is none
abbrev pub IsChoice : List Record → List StateId → Option StateId → Type 0
IsChoice rs ws None = ws ≡ []
IsChoice rs ws (Some w) = IsTrue (is_among w ws) × ((v : StateId) → lowest rs ws ≡ Some v → v ≡ w)

-- the slot is that of the stand-in of such a state
pub record IsChosen (table : Table) (rs : List Record) (ks ws : List StateId) (slot : Option Slot) : Type 0 where
  pub writer : Option StateId
  pub held : option_and_then (id_at table) slot ≡ option_map (stand_in rs ks) writer
  pub choice : IsChoice rs ws writer

-- the key has no latest writer at these states, or the slot is that of the stand-in of the lowest of them, or it is a
-- conflict key
abbrev pub JoinedAs : Table → List Record → List StateId → List StateId → List ℕ → Joined → Type 0
JoinedAs table rs ks xs k Absent = latest_writers rs k xs ≡ []
JoinedAs table rs ks xs k (At slot) = (w : StateId) × (lowest rs (latest_writers rs k xs) ≡ Some w) × (id_at table slot ≡ Some (stand_in rs ks w))
JoinedAs table rs ks xs k Split = IsTrue (is_conflict_key rs xs k)
