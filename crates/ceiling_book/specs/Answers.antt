-- What the calls of a book answer.
use Rattle.std.specs.Prelude.{◌≡◌, ℕ, Bool, Result, Ok, Err, IsTrue, IsFalse, length}
use Rattle.tardis_base.specs.declared.ids.Slot.{Slot}
use Rattle.plain_dag.specs.Entries.{with_entry}
use Rattle.plain_dag.specs.Floors.{opening_session}
use Rattle.ceiling_book.specs.declared.OpenFault.{OpenFault}
use Rattle.ceiling_book.specs.declared.OpenFault.TheVariants.{AlreadyOpen, SessionsFull, NoMemory}
use Rattle.ceiling_book.specs.Book.{Book, sessions_of, own_floor, is_open, is_full}

-- all but the sessions is as before
pub record KeepsRest (old new : Book) : Type 0 where
  pub own : new.own ≡ old.own
  pub max_sessions : new.max_sessions ≡ old.max_sessions
  pub root : new.root ≡ old.root
  pub floors : new.floors ≡ old.floors

-- the session is open, under the own floor; or it was open, and else as many were as may be, and else there was no
-- memory, and then the book is as before
abbrev pub OpenedIn : Book → Book → ℕ → Bool → Result Slot OpenFault → Type 0
OpenedIn old new n follow (Ok slot) =
    IsFalse (is_open old n) × IsFalse (is_full old) × (sessions_of new ≡ with_entry n (opening_session follow (own_floor old).state) (sessions_of old))
OpenedIn old new n follow (Err AlreadyOpen) = IsTrue (is_open old n) × (new ≡ old)
OpenedIn old new n follow (Err (SessionsFull m)) = IsFalse (is_open old n) × IsTrue (is_full old) × (m ≡ length (sessions_of old)) × (new ≡ old)
OpenedIn old new n follow (Err NoMemory) = IsFalse (is_open old n) × IsFalse (is_full old) × (new ≡ old)
