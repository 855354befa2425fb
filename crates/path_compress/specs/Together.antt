-- When a store and a book stand together for a history, and what they keep as states are collected.
use Rattle.std.specs.Prelude.{◌≡◌, ℕ, Bool, List, Some, IsTrue, IsFalse}
use Rattle.std.specs.List.{list_any, list_all}
use Rattle.tardis_base.specs.declared.ids.StateId.{StateId}
use Rattle.tardis_base.specs.declared.ids.Slot.{Slot}
use Rattle.tardis_base.specs.declared.records.Record.{Record}
use Rattle.tardis_base.specs.Ids.{is_among}
use Rattle.plain_dag.specs.Above.{is_above}
use Rattle.plain_dag.specs.Floors.{Session, Sessions, Floor}
use Rattle.state_dag.specs.Table.{Table, id_at}
use Rattle.record_store.specs.Store.{Store}
use Rattle.record_store.specs.Stands.{StoreStands}
use Rattle.ceiling_book.specs.Book.{Book, sessions_of, floors_of}
use Rattle.ceiling_book.specs.Places.{ArePlaced}

-- the ceiling of each open session has a floor at or above it
abbrev pub are_under_floors : List Record → List Floor → Sessions → Bool
are_under_floors rs floors sessions = list_all (λ (s : ℕ × Session). list_any (λ f. is_above rs f.state s.1.ceiling) floors) sessions

-- The store stands for the history, beside the collected states; the places of the book are right there; and each open
-- ceiling is under a floor.
pub record StandTogether (store : Store) (book : Book) (rs : List Record) (ks : List StateId) : Type 0 where
  pub history : StoreStands store rs ks
  pub placed : ArePlaced book store.table rs ks
  pub under_floors : IsTrue (are_under_floors rs (floors_of book) (sessions_of book))

-- there is a history for which they stand together
pub record StandForHistory (store : Store) (book : Book) : Type 0 where
  pub records : List Record
  pub collected : List StateId
  pub together : StandTogether store book records collected

-- limits and numbers are as before
pub record KeepsNumbers (old new : Table) : Type 0 where
  pub limits : new.limits ≡ old.limits
  pub counts : new.counts ≡ old.counts
  pub known : new.known ≡ old.known

-- sessions and floors are as before, whatever the slots
pub record KeepsPromises (old new : Book) : Type 0 where
  pub own : new.own ≡ old.own
  pub max_sessions : new.max_sessions ≡ old.max_sessions
  pub sessions : sessions_of new ≡ sessions_of old
  pub floors : floors_of new ≡ floors_of old

-- each state that was kept, and isn't collected now, is at the slot where it was
abbrev pub KeepsUncollected : Table → Table → List StateId → Type 0
KeepsUncollected old new ks = (slot : Slot) (x : StateId) → id_at old slot ≡ Some x → IsFalse (is_among x ks) → id_at new slot ≡ Some x
