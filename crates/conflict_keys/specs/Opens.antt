-- The least conflict key that isn't written.
use Rattle.std.specs.Prelude.{ℕ, Bool, true, ◌&&◌, not, List, Option, Some, None, IsTrue, IsFalse}
use Rattle.tardis_base.specs.declared.ids.StateId.{StateId}
use Rattle.tardis_base.specs.declared.records.Record.{Record}
use Rattle.tardis_base.specs.Keys.{KeyWrite, is_key_before, has_key}
use Rattle.plain_dag.specs.Conflicts.{is_conflict_key}

-- the key is a conflict key of these states, and isn't written
abbrev pub is_open_conflict : List Record → List StateId → List KeyWrite → List ℕ → Bool
is_open_conflict rs xs ws k = is_conflict_key rs xs k && not (has_key k ws)

-- the key is before the other, if there is one
abbrev pub is_less : List ℕ → Option (List ℕ) → Bool
is_less k None = true
is_less k (Some l) = is_key_before k l

-- the key passes, and none that was met and passes is before it; where there is no key, none that was met passes
abbrev pub IsLeast : (List ℕ → Bool) → (List ℕ → Bool) → Option (List ℕ) → Type 0
IsLeast passes met None = (k : List ℕ) → IsTrue (met k) → IsFalse (passes k)
IsLeast passes met (Some l) = IsTrue (passes l) × ((k : List ℕ) → IsTrue (met k) → IsTrue (passes k) → IsFalse (is_key_before k l))
