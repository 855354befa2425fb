-- What a waiting room hands back.
use Rattle.std.specs.Prelude.{List, drop, Option, Some, None, slice_get, if◌then◌else◌}
use Rattle.tardis_base.specs.declared.records.Record.{Record}
use Rattle.plain_site.specs.WaitingRoom.{waits, is_full}

-- the first record goes where as many wait as may
abbrev pub pushed_out : List Record → Option Record
pushed_out room = if is_full room then slice_get room 0 else None

-- so there is room for one more
abbrev pub with_room : List Record → List Record
with_room room = if is_full room then drop 1 room else room

-- what isn't kept: the record itself where one of its id waits, else the first one where as many wait as may
abbrev pub handed_back : Record → List Record → Option Record
handed_back r room = if waits room r.id then Some r else pushed_out room
