-- States and their records. A list of records is newest first: the root is its last.
use Rattle.std.specs.Prelude.{ℕ, Bool, ◌==◌, ◌&&◌, ◌+◌, List, [], ◌∷◌, ◌++◌, length, map, find, Option, if◌then◌else◌}
use Rattle.std.specs.List.{list_any}
use Rattle.std.specs.Option.{option_and_then}
use Rattle.tardis_base.specs.declared.ids.StateId.{StateId}
use Rattle.tardis_base.specs.declared.records.Record.{Record}
use Rattle.tardis_base.specs.declared.records.Write.{Write}
use Rattle.tardis_base.specs.Ids.{root, same_id, is_among}
use Rattle.tardis_base.specs.Keys.{has_key, write_of}

-- the root has no parents and no writes
abbrev pub root_record : Record
root_record = record { id = root; parents = []; writes = [] }

-- the states, newest first
abbrev pub states : List Record → List StateId
states rs = map (λ r. r.id) rs

-- the states in arrival order
abbrev pub arrived : List Record → List StateId
arrived [] = []
arrived (r ∷ rs) = arrived rs ++ r.id ∷ []

-- the state has a record
abbrev pub is_known : List Record → StateId → Bool
is_known rs x = is_among x (states rs)

-- the state's record
abbrev pub record_at : List Record → StateId → Option Record
record_at rs x = find (λ r. same_id x r.id) rs

-- the state's parents
abbrev pub parents_of : List Record → StateId → List StateId
parents_of [] x = []
parents_of (r ∷ rs) x =
    let older = parents_of rs x in
    if same_id x r.id then r.parents else older

-- how many records had arrived before the state's
abbrev pub arrival : List Record → StateId → ℕ
arrival [] x = 0
arrival (r ∷ rs) x =
    let older = arrival rs x in
    if same_id x r.id then length rs else older

-- how many states of the site there are
abbrev pub count_of_site : List Record → ℕ → ℕ
count_of_site [] site = 0
count_of_site (r ∷ rs) site =
    let older = count_of_site rs site in
    if r.id.site == site then older + 1 else older

-- the states that have x as a parent, in arrival order
abbrev pub children : List Record → StateId → List StateId
children [] x = []
children (r ∷ rs) x =
    let older = children rs x in
    if is_among x r.parents then older ++ r.id ∷ [] else older

-- the state writes the key
abbrev pub writes_key : List Record → List ℕ → StateId → Bool
writes_key rs k x = list_any (λ r. same_id x r.id && has_key k r.writes) rs

-- what the state writes to the key
abbrev pub write_at : List Record → List ℕ → StateId → Option Write
write_at rs k x = option_and_then (λ r. write_of k r.writes) (record_at rs x)
