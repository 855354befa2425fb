-- The keys that are told of a state.
use Rattle.std.specs.Prelude.{ℕ, Bool, ◌&&◌, List, Option, is_some}
use Rattle.std.specs.Option.{option_and_then}
use Rattle.tardis_base.specs.declared.ids.StateId.{StateId}
use Rattle.tardis_base.specs.declared.records.Record.{Record}
use Rattle.tardis_base.specs.declared.records.Write.{Write}
use Rattle.tardis_base.specs.Bytes.{value_of}
use Rattle.plain_questions.specs.Contents.{is_asked, has_value}

-- what was read is a value
abbrev pub has_value_read : Option (StateId × Write) → Bool
has_value_read found = is_some (option_and_then (λ (w : StateId × Write). value_of w.1) found)

-- the key has a value at the state, begins with the prefix and stands behind these bytes
abbrev pub is_told : List Record → StateId → List ℕ → List ℕ → List ℕ → Bool
is_told rs x prefix after k = is_asked prefix after k && has_value rs x k
