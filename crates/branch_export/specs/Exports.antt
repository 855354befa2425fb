-- What an export of a state says, and how it is spelled in bytes.
use Rattle.std.specs.Prelude.{◌≡◌, ℕ, Bool, ◌&&◌, List, [], ◌∷◌, ◌++◌, length, map, flat_map, filter_map, Option, Some, None, option_map, IsTrue}
use Rattle.std.specs.List.{list_all}
use Rattle.tardis_base.specs.declared.ids.StateId.{StateId}
use Rattle.tardis_base.specs.declared.records.Record.{Record}
use Rattle.tardis_base.specs.declared.records.Write.{Write}
use Rattle.tardis_base.specs.Bytes.{value_of}
use Rattle.tardis_base.specs.Keys.{with_key, keys_of, are_ascending_keys}
use Rattle.tardis_base.specs.Valid.{is_key, is_value, is_u64}
use Rattle.plain_dag.specs.Writers.{read}
use Rattle.wire_item.specs.Spellings.{u64_spelling, key_spelling, value_spelling}

-- a key with its value
abbrev pub Entry : Type 0
Entry = List ℕ × List ℕ

-- the keys with these among them, each in its place
abbrev pub with_keys : List (List ℕ) → List (List ℕ) → List (List ℕ)
with_keys [] ls = ls
with_keys (k ∷ ks) ls = with_key k (with_keys ks ls)

-- all keys that the records write, in ascending order, each once
abbrev pub written_keys : List Record → List (List ℕ)
written_keys [] = []
written_keys (r ∷ rs) = with_keys (keys_of r.writes) (written_keys rs)

-- the value that was read; none where nothing was found, or a deletion
abbrev pub value_read : Option (StateId × Write) → Option (List ℕ)
value_read None = None
value_read (Some found) = value_of found.1

-- the key with the value that is read at the state, where it is a value
abbrev pub entry_at : List Record → StateId → List ℕ → Option Entry
entry_at rs x k = option_map (λ value. (k, value)) (value_read (read rs k x))

-- the contents of a state: each key whose read there is a value, in ascending order, with that value
abbrev pub contents : List Record → StateId → List Entry
contents rs x = filter_map (entry_at rs x) (written_keys rs)

-- the key and the value
abbrev pub entry_spelling : Entry → List ℕ
entry_spelling e = key_spelling e.0 ++ value_spelling e.1

-- a u64 for the number of entries, and the entries
abbrev pub export_spelling : List Entry → List ℕ
export_spelling es = u64_spelling (length es) ++ flat_map entry_spelling es

-- the export of a state
abbrev pub export_of : List Record → StateId → List ℕ
export_of rs x = export_spelling (contents rs x)

-- a key and a value as there are
abbrev pub is_entry : Entry → Bool
is_entry e = is_key e.0 && is_value e.1

-- such as an export may have: at most as many as a u64 tells, their keys ascending
abbrev pub are_entries : List Entry → Bool
are_entries es = is_u64 (length es) && list_all is_entry es && are_ascending_keys (map (λ e. e.0) es)

-- the bytes are an export, of these entries
abbrev pub IsExport : List ℕ → List Entry → Type 0
IsExport bytes es = IsTrue (are_entries es) × (bytes ≡ export_spelling es)
