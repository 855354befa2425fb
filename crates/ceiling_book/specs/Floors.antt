-- What the calls that move ceilings and floors answer.
use Rattle.std.specs.Prelude.{◌≡◌, ℕ, Bool, ◌+◌, ◌==◌, ◌&&◌, not, List, length, map, find, Option, None, Some, Result, Ok, Err, IsTrue, IsFalse}
use Rattle.std.specs.List.{list_all}
use Rattle.std.specs.Option.{option_map}
use Rattle.tardis_base.specs.declared.ids.StateId.{StateId}
use Rattle.tardis_base.specs.declared.ids.Slot.{Slot}
use Rattle.tardis_base.specs.declared.records.Record.{Record}
use Rattle.tardis_base.specs.declared.faults.SeqEnd.{SeqEnd as NumbersEnd}
use Rattle.plain_dag.specs.States.{count_of_site}
use Rattle.plain_dag.specs.Above.{is_above}
use Rattle.plain_dag.specs.Entries.{changed}
use Rattle.plain_dag.specs.Floors.{Session, Sessions, Floor, with_ceiling, holding_session, automatic_floor, with_floor}
use Rattle.state_dag.specs.Table.{Table, id_at, is_slot_above}
use Rattle.ceiling_book.specs.declared.parts.Place.{Place}
use Rattle.ceiling_book.specs.declared.parts.OpenSession.{OpenSession}
use Rattle.ceiling_book.specs.declared.parts.KnownFloor.{KnownFloor}
use Rattle.ceiling_book.specs.declared.floors.CeilingBack.{CeilingBack}
use Rattle.ceiling_book.specs.declared.floors.RaiseFault.{RaiseFault}
use Rattle.ceiling_book.specs.declared.floors.RaiseFault.TheVariants.{FloorBack, Held, SeqEnd}
use Rattle.ceiling_book.specs.Book.{Book, sessions_of, floors_of, own_floor}

-- all but the floors is as before, and there are as many of these
pub record KeepsSessions (old new : Book) : Type 0 where
  pub own : new.own ≡ old.own
  pub max_sessions : new.max_sessions ≡ old.max_sessions
  pub root : new.root ≡ old.root
  pub sessions : new.sessions ≡ old.sessions
  pub sites : length new.floors ≡ length old.floors

-- a floor at the place, before any promise of its site
abbrev pub unpromised_at : Place → KnownFloor
unpromised_at place = record { place = place; number = 0; stated = 0 }

-- the book with every floor at this place, as before any promise
abbrev pub with_floors_at : Place → Book → Book
with_floors_at place book = record book { floors = map (λ (f : KnownFloor). unpromised_at place) book.floors }

-- the session's ceiling was at or above x and is x now; or it wasn't, and the book is as before
abbrev pub CeilingSetIn : List Record → Book → Book → ℕ → Session → StateId → Result Unit CeilingBack → Type 0
CeilingSetIn rs old new n s x (Ok done) = IsTrue (is_above rs s.ceiling x) × (sessions_of new ≡ changed n (with_ceiling x) (sessions_of old))
CeilingSetIn rs old new n s x (Err fault) = IsFalse (is_above rs s.ceiling x) × (fault.ceiling ≡ s.ceiling) × (new ≡ old)

-- the least session whose ceiling the state isn't at or above, with that ceiling
abbrev pub holder : List Record → Sessions → StateId → Option (ℕ × StateId)
holder rs sessions x = option_map (λ (s : ℕ × Session). (s.0, s.1.ceiling)) (holding_session rs sessions x)

-- the own floor is x now, with the next number and the own count; or there is no next number, and the book is as before
abbrev pub FloorMoved : List Record → Book → Book → StateId → Result ℕ NumbersEnd → Type 0
FloorMoved rs old new x (Ok number) =
    IsFalse ((own_floor old).number == 4294967295) × (number ≡ (own_floor old).number + 1)
    × (floors_of new ≡ with_floor (floors_of old) old.own (record { state = x; number = number; stated = count_of_site rs old.own }))
FloorMoved rs old new x (Err end) = IsTrue ((own_floor old).number == 4294967295) × (new ≡ old)

-- the own floor moved to x; or it isn't at or above x; or else a session holds it; or else there is no next number
abbrev pub RaisedIn : List Record → Book → Book → StateId → Result ℕ RaiseFault → Type 0
RaisedIn rs old new x (Ok number) =
    IsTrue (is_above rs (own_floor old).state x) × (holder rs (sessions_of old) x ≡ None) × FloorMoved rs old new x (Ok number)
RaisedIn rs old new x (Err (FloorBack floor)) = IsFalse (is_above rs (own_floor old).state x) × (floor ≡ (own_floor old).state) × (new ≡ old)
RaisedIn rs old new x (Err (Held n ceiling)) =
    IsTrue (is_above rs (own_floor old).state x) × (holder rs (sessions_of old) x ≡ Some (n, ceiling)) × (new ≡ old)
RaisedIn rs old new x (Err SeqEnd) =
    IsTrue (is_above rs (own_floor old).state x) × (holder rs (sessions_of old) x ≡ None) × IsTrue ((own_floor old).number == 4294967295) × (new ≡ old)

-- the own floor moved to the automatic floor, which is kept at the slot that is answered; or there is no next number
abbrev pub AutoRaisedIn : List Record → Table → Book → Book → Result (Slot × ℕ) NumbersEnd → Type 0
AutoRaisedIn rs table old new (Ok raised) =
    let x = automatic_floor rs (own_floor old).state (sessions_of old) in
    (id_at table raised.0 ≡ Some x) × FloorMoved rs old new x (Ok raised.1)
AutoRaisedIn rs table old new (Err end) = IsTrue ((own_floor old).number == 4294967295) × (new ≡ old)

-- the same among what is kept: the least session whose ceiling's slot isn't at or below this one
abbrev pub slot_holder : Table → List (ℕ × OpenSession) → Slot → Option (ℕ × StateId)
slot_holder table sessions slot =
    option_map (λ (s : ℕ × OpenSession). (s.0, s.1.ceiling.state)) (find (λ (s : ℕ × OpenSession). not (is_slot_above table slot s.1.ceiling.slot)) sessions)

-- the test holds at the slot of each open ceiling
abbrev pub each_ceiling : (Slot → Bool) → List (ℕ × OpenSession) → Bool
each_ceiling test sessions = list_all (λ (s : ℕ × OpenSession). test s.1.ceiling.slot) sessions
