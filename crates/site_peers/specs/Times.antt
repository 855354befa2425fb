-- How long a peer is left alone. Times are in milliseconds.
use Rattle.std.specs.Prelude.{ℕ, ◌*◌, ◌-◌, min, Bool, nat_le}
use Rattle.site_peers.specs.declared.times.TheConstants.{PATIENCE, FIRST_PAUSE, LONGEST_PAUSE}

-- so long a call and an answer are waited for
abbrev pub patience : ℕ
patience = PATIENCE

-- so long a peer is left alone after a first failure
abbrev pub first_pause : ℕ
first_pause = FIRST_PAUSE

-- and so long after one failure more in a row
abbrev pub longer : ℕ → ℕ
longer pause = min (2 * pause) LONGEST_PAUSE

-- so long has passed since then
abbrev pub has_passed : (now since wait : ℕ) → Bool
has_passed now since wait = nat_le wait (now - since)
