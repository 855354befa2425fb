-- Which seat the state of each slot has, and what is kept by seats as it is seen by slots.
use Rattle.std.specs.Prelude.{◌≡◌, ◌&&◌, Bool, List, [], map, length, get_or, nat_lt, if◌then◌else◌}
use Rattle.tardis_base.specs.declared.ids.Slot.{Slot}
use Rattle.version_list.specs.declared.histories.Version.{Version}
use Rattle.version_list.specs.Lists.{Lists, Listed}
use Rattle.version_list.specs.Notes.{Noted, same_slot}

-- the seat of each slot, and the slot of each seat
pub record Seating : Type 0 where
  pub seats : List Slot
  pub slots : List Slot

-- each slot has the seat of its own number
abbrev pub no_seats : Seating
no_seats = record { seats = []; slots = [] }

-- what a table has at this number; the number itself where the table ends before it
abbrev pub placed_in : List Slot → Slot → Slot
placed_in table s = get_or table s.0 s

abbrev pub seat_of : Seating → Slot → Slot
seat_of t slot = placed_in t.seats slot

abbrev pub slot_of : Seating → Slot → Slot
slot_of t seat = placed_in t.slots seat

-- each slot has one seat, and each seat is that of one slot
pub record IsPaired (t : Seating) : Type 0 where
  pub seats : (slot : Slot) → slot_of t (seat_of t slot) ≡ slot
  pub slots : (seat : Slot) → seat_of t (slot_of t seat) ≡ seat

-- both slots and both of their seats stand in the tables
abbrev pub stand_in_tables : Seating → Slot → Slot → Bool
stand_in_tables t a b =
    nat_lt a.0 (length t.seats) && nat_lt b.0 (length t.seats)
    && nat_lt (seat_of t a).0 (length t.slots) && nat_lt (seat_of t b).0 (length t.slots)

-- of these two the other; any other is itself
abbrev pub other_of : Slot → Slot → Slot → Slot
other_of a b s = if same_slot s a then b else if same_slot s b then a else s

-- ===== What is seen

-- the version of a seat's state, at the state's slot
abbrev pub seen_version : Seating → Version → Version
seen_version t v = record { slot = slot_of t v.slot; writer = v.writer; write = v.write }

abbrev pub seen_listed : Seating → Listed → Listed
seen_listed t l = record { versions = map (seen_version t) l.versions; room = l.room }

abbrev pub seen_lists : Seating → Lists → Lists
seen_lists t ls = record { lists = map (λ l. (l.0, seen_listed t l.1)) ls.lists }

abbrev pub seen_notes : Seating → Noted → Noted
seen_notes t n = record { by_slot = map (λ e. (slot_of t e.0, e.1)) n.by_slot; states = n.states; chunks = n.chunks; made = n.made }

-- ===== A table of states by seats

-- the seat is that of a slot where this is so
abbrev pub is_seated : Seating → (Slot → Bool) → Slot → Bool
is_seated t kept seat = kept (slot_of t seat) && same_slot (seat_of t (slot_of t seat)) seat
