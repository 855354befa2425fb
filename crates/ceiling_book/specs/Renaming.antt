-- A slot that is given up: what stood there as a stand-in stands at another slot then.
use Rattle.std.specs.Prelude.{◌≡◌, ℕ, Bool, ◌==◌, ◌&&◌, not, List, map, Some, if◌then◌else◌}
use Rattle.std.specs.List.{list_all}
use Rattle.tardis_base.specs.declared.ids.StateId.{StateId}
use Rattle.tardis_base.specs.declared.ids.Slot.{Slot}
use Rattle.tardis_base.specs.declared.records.Record.{Record}
use Rattle.tardis_base.specs.Ids.{same_id}
use Rattle.plain_dag.specs.Floors.{Session, Floor}
use Rattle.plain_dag.specs.Collection.{shared_stand_in}
use Rattle.state_dag.specs.Table.{Table, id_at}
use Rattle.ceiling_book.specs.declared.parts.OpenSession.{OpenSession}
use Rattle.ceiling_book.specs.Book.{Book, sessions_of, floors_of}

-- the other slot where it was the one, else as it was
abbrev pub renamed_slot : Slot → Slot → Slot → Slot
renamed_slot from to slot = if slot.0 == from.0 then to else slot

-- the session with the slot of its last commit renamed
abbrev pub renamed_session : Slot → Slot → OpenSession → OpenSession
renamed_session from to s =
    record { follow = s.follow; ceiling = s.ceiling; last = record { state = s.last.state; slot = renamed_slot from to s.last.slot } }

-- the book with the slots of the root and of the last commits renamed
abbrev pub renamed : Slot → Slot → Book → Book
renamed from to book = record {
  own = book.own;
  max_sessions = book.max_sessions;
  root = renamed_slot from to book.root;
  sessions = map (λ (e : ℕ × OpenSession). (e.0, renamed_session from to e.1)) book.sessions;
  floors = book.floors;
}

-- the state is no ceiling and no floor
abbrev pub is_free : Book → StateId → Bool
is_free book x =
    list_all (λ (s : ℕ × Session). not (same_id s.1.ceiling x)) (sessions_of book) && list_all (λ (f : Floor). not (same_id f.state x)) (floors_of book)

-- the state x was kept at the one slot, the stand-in that its children share is kept at the other one, and all slots but
-- the one name what they named
pub record GivesUp (old new : Table) (rs : List Record) (ks : List StateId) (from to : Slot) (x s : StateId) : Type 0 where
  pub given_up : id_at old from ≡ Some x
  pub shared : shared_stand_in rs ks x ≡ Some s
  pub stand_in : id_at new to ≡ Some s
  pub others : (slot : Slot) → (slot ≡ from → ⊥) → id_at new slot ≡ id_at old slot
