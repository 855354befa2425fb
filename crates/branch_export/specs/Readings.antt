-- How the entries of an export are read back from bytes.
use Rattle.std.specs.Prelude.{◌≡◌, ℕ, Bool, true, false, List, map, Option, Some, None}
use Rattle.tardis_base.specs.Keys.{are_ascending_keys}
use Rattle.wire_item.specs.Fronts.{Front, both, only_if, times, counted}
use Rattle.wire_item.specs.Readings.{u64_front, key_front, value_front}
use Rattle.branch_export.specs.Exports.{Entry, are_entries, IsExport}

abbrev pub entry_front : Front Entry
entry_front = both key_front value_front

-- their keys ascend
abbrev pub are_ascending : List Entry → Bool
are_ascending es = are_ascending_keys (map (λ e. e.0) es)

-- so many entries, in order
abbrev pub entries_front : ℕ → Front (List Entry)
entries_front n = only_if are_ascending (times entry_front n)

-- an export
abbrev pub export_front : Front (List Entry)
export_front = only_if are_entries (counted u64_front (times entry_front))

-- so many entries were read, in order; or there are none at the front
abbrev pub CountsAs : ℕ → List ℕ → Option (Unit {0}) → List ℕ → Type 0
CountsAs n old (Some done) new = (es : List Entry) × (entries_front n old ≡ Some (es, new))
CountsAs n old None new = entries_front n old ≡ None

-- the bytes are an export, or they are none
abbrev pub IsJudged : List ℕ → Bool → Type 0
IsJudged bytes true = (es : List Entry) × IsExport bytes es
IsJudged bytes false = (es : List Entry) → IsExport bytes es → ⊥
