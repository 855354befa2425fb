-- The sites from which a server fetches, by its words, and how often.
use Rattle.std.specs.Prelude.{ℕ, Bool, ◌&&◌, List, Option, None, Some, codes, length, nat_le, nat_lt, filter_map, if◌then◌else◌}
use Rattle.std.specs.List.{list_all}
use Rattle.command_words.specs.Settings.{Setting}
use Rattle.command_words.specs.Values.{number_or}
use Rattle.command_words.specs.Forms.{of}
use Rattle.daemon_words.specs.Values.{may_stand}
use Rattle.daemon_words.specs.Doors.{has_address}

-- at most 15 times, each time with an address at which a door may be
abbrev pub are_peers : List Setting → Bool
are_peers found =
    let asked = of found (codes "--peer") in
    nat_le (length asked) 15 && list_all has_address asked

-- the addresses of the peers, in their order
abbrev pub peer_addresses : List Setting → List (List ℕ)
peer_addresses found = filter_map (λ value. value) (of found (codes "--peer"))

-- `--peer ADDR`, at most 15 times
abbrev pub peers : List Setting → Option (List (List ℕ))
peers found = if are_peers found then Some (peer_addresses found) else None

-- `--every SECONDS`, from 1 to 86,400, where a peer is named; 5 where it is left out
abbrev pub every : List Setting → Option ℕ
every found =
    if may_stand (nat_lt 0 (length (of found (codes "--peer")))) (of found (codes "--every"))
    then number_or 5 1 86400 (of found (codes "--every")) else None
