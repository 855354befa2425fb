-- The words that ask to check a file.
use Rattle.std.specs.Prelude.{ℕ, List, [], ◌∷◌, Option, Some, None, ◌&&◌, codes, bytes_eq, if◌then◌else◌}
use Rattle.command_words.specs.Values.{is_address}

-- a path has the form of an address
abbrev pub checked_path : List ℕ → Option (List ℕ)
checked_path word = if is_address word then Some word else None

-- `--check` and `--file PATH`, in either order, and nothing else
abbrev pub checked_file : List (List ℕ) → Option (List ℕ)
checked_file (first ∷ second ∷ third ∷ []) =
    if bytes_eq first (codes "--check") && bytes_eq second (codes "--file") then checked_path third else
    (if bytes_eq first (codes "--file") && bytes_eq third (codes "--check") then checked_path second else None)
checked_file _ = None
