-- A site with the lives that it knows, which joins leaves by rules and tells its oldest promise where it is asked to, as a machine; and
-- what lasts of its requests.
use Rattle.std.specs.Prelude.{ℕ, List, Option, None, option_map, option_to_list, if◌then◌else◌}
use Rattle.tardis_base.specs.Plain.{Event, PlainMachine}
use Rattle.plain_site.specs.Step.{site_machine}
use Rattle.join_rules.specs.Joins.{is_join, joining, lasting_of_join}
use Rattle.rest_site.specs.Oldest.{asks_oldest, telling}
use Rattle.site_lives.specs.Acquainted.{Acquainted, acquainted}
use Rattle.site_lives.specs.Things.{LastingThing, OfSite, thing_of_event, all_spellings}

abbrev pub ruled_machine : PlainMachine Acquainted
ruled_machine = acquainted (telling (joining site_machine))

-- what lasts of an event: nothing of the request for the oldest promise, of one to join leaves the record that arrives, of all others what
-- lasts of them without rules
abbrev pub ruled_thing : Acquainted → Event → Option LastingThing
ruled_thing a e =
    if asks_oldest e.1 then None else
    if is_join e.1 then option_map OfSite (lasting_of_join a.site e.1) else thing_of_event a e

-- so in bytes; none where nothing does
abbrev pub ruled_bytes : Acquainted → Event → List ℕ
ruled_bytes a e = all_spellings (option_to_list (ruled_thing a e))
