-- What the words of a server say of its sockets.
use Rattle.std.specs.Prelude.{ℕ, Bool, false, ◌&&◌, List, [], ◌∷◌, Option, None, Some, codes, length, filter, nat_eq, if◌then◌else◌}
use Rattle.std.specs.List.{list_all, list_any, starts_with}
use Rattle.std.specs.Str.Parse.{digits_value}
use Rattle.tardis_base.specs.Bytes.{is_within}
use Rattle.command_words.specs.Settings.{Setting}
use Rattle.command_words.specs.Forms.{of}
use Rattle.daemon_words.specs.Values.{number_or_none, may_stand}
use Rattle.daemon_words.specs.Doors.{is_door}

-- the address of a Unix socket
abbrev pub is_unix : List ℕ → Bool
is_unix word = starts_with nat_eq word (codes "unix:")

-- a value that is there and is the address of a Unix socket
abbrev pub has_unix : Option (List ℕ) → Bool
has_unix None = false
has_unix (Some word) = is_unix word

-- a door is a Unix socket
abbrev pub is_unix_asked : List Setting → Bool
is_unix_asked found = list_any (λ setting. has_unix setting.1) (filter is_door found)

-- each byte is one of `0` to `7`
abbrev pub are_octal : List ℕ → Bool
are_octal word = list_all (λ byte. is_within 48 55 byte) word

-- three or four octal digits
abbrev pub is_mode : List ℕ → Bool
is_mode word = is_within 3 4 (length word) && are_octal word

-- the mode that a word writes
abbrev pub mode_of : List ℕ → Option ℕ
mode_of word = if is_mode word then Some (digits_value 8 word) else None

-- the mode of an option that may be left out
abbrev pub mode_or : ℕ → List (Option (List ℕ)) → Option ℕ
mode_or default [] = Some default
mode_or default (Some word ∷ []) = mode_of word
mode_or default _ = None

-- `--mode MODE`, where a door is a Unix socket; 0600 in octal digits where it is left out
abbrev pub mode : List Setting → Option ℕ
mode found = if may_stand (is_unix_asked found) (of found (codes "--mode")) then mode_or (digits_value 8 (codes "600")) (of found (codes "--mode")) else None

-- `--idle SECONDS`, from 1 to 86,400, or not
abbrev pub idle : List Setting → Option (Option ℕ)
idle found = number_or_none 1 86400 (of found (codes "--idle"))
