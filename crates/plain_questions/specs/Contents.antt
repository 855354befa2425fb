-- What a state has: its keys with their values.
use Rattle.std.specs.Prelude.{ℕ, Bool, ◌&&◌, List, Option, bytes_eq, take, length, filter, filter_map, is_some, option_map}
use Rattle.std.specs.Option.{option_and_then}
use Rattle.tardis_base.specs.declared.ids.StateId.{StateId}
use Rattle.tardis_base.specs.declared.records.Record.{Record}
use Rattle.tardis_base.specs.Bytes.{value_of}
use Rattle.tardis_base.specs.Keys.{is_key_before}
use Rattle.plain_dag.specs.Writers.{read}
use Rattle.plain_dag.specs.Conflicts.{written_keys}
use Rattle.plain_questions.specs.declared.questions.Entry.{Entry}

-- the value that is read of the key at the state; none where nothing is found, or a deletion
abbrev pub value_at : List Record → StateId → List ℕ → Option (List ℕ)
value_at rs x k = option_and_then (λ found. value_of found.1) (read rs k x)

-- the key has a value at the state
abbrev pub has_value : List Record → StateId → List ℕ → Bool
has_value rs x k = is_some (value_at rs x k)

-- the key with its value at the state, where it has one
abbrev pub entry_at : List Record → StateId → List ℕ → Option Entry
entry_at rs x k = option_map (λ v. record { key = k; value = v }) (value_at rs x k)

-- the key's first bytes are these
abbrev pub begins_with : List ℕ → List ℕ → Bool
begins_with prefix k = bytes_eq prefix (take (length prefix) k)

-- the key begins with the prefix and stands behind these bytes
abbrev pub is_asked : List ℕ → List ℕ → List ℕ → Bool
is_asked prefix after k = begins_with prefix k && is_key_before after k

-- the keys that have a value at the state, begin with the prefix and stand behind these bytes; ascending
abbrev pub keys_behind : List Record → StateId → List ℕ → List ℕ → List (List ℕ)
keys_behind rs x prefix after = filter (λ k. is_asked prefix after k && has_value rs x k) (written_keys rs)

-- the same keys with their values
abbrev pub entries_behind : List Record → StateId → List ℕ → List ℕ → List Entry
entries_behind rs x prefix after = filter_map (entry_at rs x) (keys_behind rs x prefix after)
