-- A table that a state has left.
use Rattle.std.specs.Prelude.{Bool, ◌==◌, not, List, filter, map, Option, if◌then◌else◌}
use Rattle.std.specs.Option.{option_and_then}
use Rattle.tardis_base.specs.declared.ids.Slot.{Slot}
use Rattle.fork_path.specs.Pairs.{without_pairs_of}
use Rattle.state_dag.specs.Table.{Entry, Table, entry_at}
use Rattle.state_dag.specs.Grown.{is_slot_among}
use Rattle.state_dag.specs.Shared.{common}

-- the slot in which all children of the state at the slot stand; none where it has no child, or two stand in different slots
abbrev pub shared_slot : Table → Slot → Option Slot
shared_slot table slot = option_and_then (λ e. common (λ a b. a.0 == b.0) e.stand_ins) (entry_at table slot)

-- the slots without this one
abbrev pub without_slot : Slot → List Slot → List Slot
without_slot gone slots = filter (λ s. not (gone.0 == s.0)) slots

-- where a state stands after the one at the slot has left it to its heir
abbrev pub passed_on : Slot → Slot → Slot → Slot
passed_on gone heir slot = if slot.0 == gone.0 then heir else slot

-- the entry, with its children that stood in the slot where the heir is
abbrev pub passing_on : Slot → Slot → Entry → Entry
passing_on gone heir e = record e { stand_ins = map (passed_on gone heir) e.stand_ins }

-- the entry, without the branches of the slot in its path, where it has any
abbrev pub forgetting : Slot → Bool → Entry → Entry
forgetting gone fork e = record e { path = if fork then without_pairs_of gone.0 e.path else e.path }

-- the entry, changed where its slot is one of these
abbrev pub changed_at : (Entry → Entry) → List Slot → Entry → Entry
changed_at change slots e = if is_slot_among e.slot slots then change e else e
