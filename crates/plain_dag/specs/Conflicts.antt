-- Conflict keys of several states, and the value of the other keys over them.
use Rattle.std.specs.Prelude.{ℕ, Bool, false, not, List, [], ◌∷◌, filter, filter_map, find, Option, is_none}
use Rattle.std.specs.Option.{option_and_then}
use Rattle.tardis_base.specs.declared.ids.StateId.{StateId}
use Rattle.tardis_base.specs.declared.records.Record.{Record}
use Rattle.tardis_base.specs.declared.records.Write.{Write}
use Rattle.tardis_base.specs.Keys.{KeyWrite, has_key, with_key}
use Rattle.plain_dag.specs.Writers.{lowest, latest_writer, version_at}

-- the latest writers of the key at those of the states that have one
abbrev pub latest_writers : List Record → List ℕ → List StateId → List StateId
latest_writers rs k xs = filter_map (latest_writer rs k) xs

-- there are some, and none of them has all the others at or above it
abbrev pub is_split : List Record → List StateId → Bool
is_split rs [] = false
is_split rs (w ∷ ws) = is_none (lowest rs (w ∷ ws))

-- the latest writers of the key at these states are split
abbrev pub is_conflict_key : List Record → List StateId → List ℕ → Bool
is_conflict_key rs xs k = is_split rs (latest_writers rs k xs)

-- the value over these states of a key that is no conflict key of them: the lowest of its latest writers and what that
-- one writes, or absent
abbrev pub value_over : List Record → List StateId → List ℕ → Option (StateId × Write)
value_over rs xs k = option_and_then (version_at rs k) (lowest rs (latest_writers rs k xs))

-- the keys with those of the writes
abbrev pub with_keys_of : List KeyWrite → List (List ℕ) → List (List ℕ)
with_keys_of [] ks = ks
with_keys_of (w ∷ ws) ks = with_key w.0 (with_keys_of ws ks)

-- the keys that some state writes, ascending
abbrev pub written_keys : List Record → List (List ℕ)
written_keys [] = []
written_keys (r ∷ rs) = with_keys_of r.writes (written_keys rs)

-- the conflict keys of these states, ascending
abbrev pub conflict_keys : List Record → List StateId → List (List ℕ)
conflict_keys rs xs = filter (is_conflict_key rs xs) (written_keys rs)

-- the least conflict key of these states that isn't written
abbrev pub open_conflict : List Record → List StateId → List KeyWrite → Option (List ℕ)
open_conflict rs xs ws = find (λ k. not (has_key k ws)) (conflict_keys rs xs)
