-- Writers, latest writers, and what is read at a state.
use Rattle.std.specs.Prelude.{ℕ, Bool, ◌&&◌, List, filter, find, Option}
use Rattle.std.specs.List.{list_all}
use Rattle.std.specs.Option.{option_map, option_and_then}
use Rattle.tardis_base.specs.declared.ids.StateId.{StateId}
use Rattle.tardis_base.specs.declared.records.Record.{Record}
use Rattle.tardis_base.specs.declared.records.Write.{Write}
use Rattle.plain_dag.specs.States.{states, writes_key, write_at}
use Rattle.plain_dag.specs.Above.{is_above}

-- w writes the key and is at or above x
abbrev pub is_writer : List Record → List ℕ → StateId → StateId → Bool
is_writer rs k x w = writes_key rs k w && is_above rs w x

-- the states at or above x that write the key
abbrev pub writers : List Record → List ℕ → StateId → List StateId
writers rs k x = filter (is_writer rs k x) (states rs)

-- all of these are at or above w
abbrev pub are_above : List Record → List StateId → StateId → Bool
are_above rs vs w = list_all (λ v. is_above rs v w) vs

-- the one of these that all of them are at or above
abbrev pub lowest : List Record → List StateId → Option StateId
lowest rs ws = find (are_above rs ws) ws

-- the latest writer of the key at x: the one that all writers there are at or above
abbrev pub latest_writer : List Record → List ℕ → StateId → Option StateId
latest_writer rs k x = lowest rs (writers rs k x)

-- a state with what it writes to the key
abbrev pub version_at : List Record → List ℕ → StateId → Option (StateId × Write)
version_at rs k x = option_map (λ w. (x, w)) (write_at rs k x)

-- the read of the key at x: the latest writer and what it writes, or absent
abbrev pub read : List Record → List ℕ → StateId → Option (StateId × Write)
read rs k x = option_and_then (version_at rs k) (latest_writer rs k x)
