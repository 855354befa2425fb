-- The keys that an export of a state has.
use Rattle.std.specs.Prelude.{ℕ, Bool, List, ◌++◌, length, filter, filter_map, flat_map, is_some}
use Rattle.tardis_base.specs.declared.ids.StateId.{StateId}
use Rattle.tardis_base.specs.declared.records.Record.{Record}
use Rattle.wire_item.specs.Spellings.{u64_spelling}
use Rattle.branch_export.specs.Exports.{written_keys, entry_at, entry_spelling}

-- the key's read at the state is a value
abbrev pub is_live : List Record → StateId → List ℕ → Bool
is_live rs x k = is_some (entry_at rs x k)

-- all such keys, in ascending order
abbrev pub live_keys : List Record → StateId → List (List ℕ)
live_keys rs x = filter (is_live rs x) (written_keys rs)

-- the number of the keys, and each with the value that is read at the state
abbrev pub spelled : List Record → StateId → List (List ℕ) → List ℕ
spelled rs x ks = u64_spelling (length ks) ++ flat_map entry_spelling (filter_map (entry_at rs x) ks)
