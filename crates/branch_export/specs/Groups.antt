-- The frames of one group of a script, and entries that stand at the front of bytes.
use Rattle.std.specs.Prelude.{◌≡◌, ℕ, List, ◌++◌, length, map, flat_map, IsTrue}
use Rattle.std.specs.List.{list_all}
use Rattle.frame_cut.specs.Frames.{frames}
use Rattle.branch_export.specs.Exports.{Entry, is_entry, entry_spelling}
use Rattle.branch_export.specs.Scripts.{body, group_requests}

-- the frames of a group
abbrev pub group_frames : List Entry → List ℕ
group_frames es = frames (map body (group_requests es))

-- so many entries, these, stand at the front of the bytes, and then the rest
pub record BeginsWith (bytes : List ℕ) (n : ℕ) (es : List Entry) (rest : List ℕ) : Type 0 where
  pub count : length es ≡ n
  pub valid : IsTrue (list_all is_entry es)
  pub spelled : bytes ≡ flat_map entry_spelling es ++ rest

-- some do
abbrev pub HasEntries : List ℕ → ℕ → Type 0
HasEntries bytes n = (es : List Entry) × (rest : List ℕ) × BeginsWith bytes n es rest
