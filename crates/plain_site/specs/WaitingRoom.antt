-- The waiting room: records that came before others that they need, in the order of their coming.
use Rattle.std.specs.Prelude.{ℕ, Bool, ◌+◌, nat_le, List, [], ◌∷◌, ◌++◌, length, drop, Option, Some, None, if◌then◌else◌}
use Rattle.std.specs.List.{remove}
use Rattle.std.specs.Option.{option_map}
use Rattle.tardis_base.specs.declared.ids.StateId.{StateId}
use Rattle.tardis_base.specs.declared.records.Record.{Record}
use Rattle.tardis_base.specs.Sizes.{most_waiting}
use Rattle.tardis_base.specs.Ids.{is_among}
use Rattle.plain_dag.specs.States.{states}

-- a record of this id waits
abbrev pub waits : List Record → StateId → Bool
waits room x = is_among x (states room)

-- as many records wait as may
abbrev pub is_full : List Record → Bool
is_full room = nat_le most_waiting (length room)

-- the room with the record held: unless a record of its id waits, it joins the end; the first record leaves a full room
abbrev pub hold : Record → List Record → List Record
hold r room = if waits room r.id then room else (if is_full room then drop 1 room else room) ++ r ∷ []

-- the first record that is fit, behind its place; places are counted from 0
abbrev pub first_fit : (Record → Bool) → List Record → Option (ℕ × Record)
first_fit fits [] = None
first_fit fits (r ∷ room) =
    let later = option_map (λ found. (found.0 + 1, found.1)) (first_fit fits room) in
    if fits r then Some (0, r) else later

-- the room without the record at this place
abbrev pub without : ℕ → List Record → List Record
without place room = remove room place
