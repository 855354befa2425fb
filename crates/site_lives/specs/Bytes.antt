-- What lasts of a site's requests in bytes, and when such bytes are taken back.
use Rattle.std.specs.Prelude.{◌≡◌, ℕ, List, IsTrue, option_to_list}
use Rattle.tardis_base.specs.Plain.{Event}
use Rattle.site_lives.specs.Acquainted.{Acquainted}
use Rattle.site_lives.specs.Things.{LastingThing, all_at_rest, thing_of_event, replay_things, all_things_fit, are_things, all_spellings}

-- what lasts of an event, in bytes; none where nothing does
abbrev pub lasting_bytes : Acquainted → Event → List ℕ
lasting_bytes a event = all_spellings (option_to_list (thing_of_event a event))

-- The site is at rest, and takes back all that stands in the bytes, one thing behind another, each of which fits; so it
-- becomes the other site.
pub record TakesBack (a : Acquainted) (bytes : List ℕ) (behind : Acquainted) : Type 0 where
  pub things : List LastingThing
  pub are : IsTrue (are_things things)
  pub spelled : bytes ≡ all_spellings things
  pub rests : all_at_rest a ≡ a
  pub fit : IsTrue (all_things_fit a things)
  pub replayed : behind ≡ replay_things things a
