-- Where the states of a book stand in a table.
use Rattle.std.specs.Prelude.{◌≡◌, List, Some, IsTrue}
use Rattle.std.specs.List.{All}
use Rattle.std.specs.Map.{values_of}
use Rattle.tardis_base.specs.declared.ids.StateId.{StateId}
use Rattle.tardis_base.specs.declared.records.Record.{Record}
use Rattle.tardis_base.specs.Ids.{root}
use Rattle.plain_dag.specs.Collection.{stand_in}
use Rattle.state_dag.specs.Table.{Table, id_at, is_slot}
use Rattle.ceiling_book.specs.declared.parts.Place.{Place}
use Rattle.ceiling_book.specs.Book.{Book}

-- the one holds of each place of a ceiling or a floor, the other of that of the root and of each last commit
pub record AllPlaces (At Near : Place → Type 0) (book : Book) : Type 0 where
  pub of_root : Near (record { state = root; slot = book.root })
  pub ceilings : All (λ s. At s.ceiling) (values_of book.sessions)
  pub last_commits : All (λ s. Near s.last) (values_of book.sessions)
  pub of_floors : All (λ f. At f.place) book.floors

-- so it is but for the floors
pub record PlacesBesideFloors (At Near : Place → Type 0) (book : Book) : Type 0 where
  pub of_root : Near (record { state = root; slot = book.root })
  pub ceilings : All (λ s. At s.ceiling) (values_of book.sessions)
  pub last_commits : All (λ s. Near s.last) (values_of book.sessions)

-- a state is kept in the table at the slot of the place
abbrev pub IsSlotOf : Table → Place → Type 0
IsSlotOf table p = IsTrue (is_slot table p.slot)

-- the state of the place is kept there
abbrev pub IsAt : Table → Place → Type 0
IsAt table p = id_at table p.slot ≡ Some p.state

-- the state that stands in for that of the place is kept there
abbrev pub HasStandIn : Table → List Record → List StateId → Place → Type 0
HasStandIn table rs ks p = id_at table p.slot ≡ Some (stand_in rs ks p.state)

-- each slot of the book is one of the table's
abbrev pub AreSlots : Book → Table → Type 0
AreSlots book table = AllPlaces (IsSlotOf table) (IsSlotOf table) book

-- ceilings and floors are kept at their slots; at those of the last commits and the root, what stands in for them
abbrev pub ArePlaced : Book → Table → List Record → List StateId → Type 0
ArePlaced book table rs ks = AllPlaces (IsAt table) (HasStandIn table rs ks) book
