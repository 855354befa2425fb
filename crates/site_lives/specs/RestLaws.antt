-- What lasts of a site and of the lives that it knows, over whole trails; and that what lasts of the site is what lasts of it where it
-- knows none, so that what is true of that is true here. And what all that is taken back keeps.
use Rattle.std.specs.Prelude.{◌≡◌, ℕ, ◌≤◌, Bool, true, false, bytes_eq, List, [], ◌∷◌, ◌++◌, Option, Some, option_map, option_to_list, is_none, IsTrue, if◌then◌else◌}
use Rattle.std.specs.List.{list_all}
use Rattle.tardis_base.specs.declared.records.Record.{Record}
use Rattle.tardis_base.specs.declared.records.Limits.{Limits}
use Rattle.tardis_base.specs.Plain.{Event, Answers, no_memory}
use Rattle.tardis_base.specs.Valid.{is_u16}
use Rattle.plain_dag.specs.Floors.{floor_of}
use Rattle.plain_site.specs.Site.{Site}
use Rattle.plain_site.specs.Sound.{IsSound}
use Rattle.plain_site.specs.Rest.{Lasting, at_rest, replay, fits, all_fit}
use Rattle.plain_site.specs.RestSpellings.{is_lasting}
use Rattle.rest_laws.specs.Trails.{lasting_of_answers}
use Rattle.rest_laws.specs.LimitLaws.{under, AreWithin}
use Rattle.plain_checkpoint.specs.Checkpoints.{untold}
use Rattle.plain_checkpoint.specs.Laws.{IsToldWell}
use Rattle.site_lives.specs.Lives.{life_of}
use Rattle.site_lives.specs.Acquainted.{Acquainted, acquainted_machine}
use Rattle.site_lives.specs.Laws.{others, replies_to_others}
use Rattle.site_lives.specs.Things.{LastingThing, OfSite, OfLives, OfRow, OfCheckpoint, OfEnd, all_at_rest, thing_of_event, replay_things, all_things_fit, are_things, all_spellings}
use Rattle.site_lives.specs.Bytes.{lasting_bytes, TakesBack}

-- what lasts of events with these replies; where memory was wanting, nothing does
abbrev pub things_of_answers : Acquainted → List Event → List (List ℕ) → List LastingThing
things_of_answers a (event ∷ events) (reply ∷ replies) =
    let later = things_of_answers (acquainted_machine.step a event) events replies in
    let undone = things_of_answers a events replies in
    if bytes_eq reply no_memory then undone else option_to_list (thing_of_event a event) ++ later
things_of_answers a _ _ = []

-- ===== The site's own

-- what lasts of the site among other things
abbrev pub of_site : List LastingThing → List Lasting
of_site [] = []
of_site (OfSite l ∷ ts) = l ∷ of_site ts
of_site (OfLives new ∷ ts) = of_site ts
of_site (OfRow n count ∷ ts) = of_site ts
of_site (OfCheckpoint p ∷ ts) = of_site ts
of_site (OfEnd floors ∷ ts) = of_site ts

-- it may last of a request: it is no row, no part of a checkpoint and no end of one
abbrev pub is_of_request : LastingThing → Bool
is_of_request (OfSite l) = true
is_of_request (OfLives new) = true
is_of_request (OfRow n count) = false
is_of_request (OfCheckpoint p) = false
is_of_request (OfEnd floors) = false

abbrev pub are_of_requests : List LastingThing → Bool
are_of_requests ts = list_all is_of_request ts

-- of requests no row lasts, no part and no end of a checkpoint
abbrev pub NothingShorterLasts : Type 0
NothingShorterLasts =
    (a : Acquainted) (events : List Event) (replies : List (List ℕ)) → IsTrue (are_of_requests (things_of_answers a events replies))

-- the site becomes what its own things make of it, each of which fits
abbrev pub SiteIsReplayed : Type 0
SiteIsReplayed = (a : Acquainted) (ts : List LastingThing) → IsTrue (are_of_requests ts) → (replay_things ts a).site ≡ replay (of_site ts) a.site

abbrev pub SiteFits : Type 0
SiteFits = (a : Acquainted) (ts : List LastingThing) → IsTrue (are_of_requests ts) → IsTrue (all_things_fit a ts) → IsTrue (all_fit a.site (of_site ts))

-- and what lasts of its trail is what lasts of that of the site alone, without the requests about lives
abbrev pub SiteHasItsThings : Type 0
SiteHasItsThings =
    (a b : Acquainted) (events : List Event) (replies : List (List ℕ)) → Answers acquainted_machine a events replies b →
    of_site (things_of_answers a events replies) ≡ lasting_of_answers a.site (others events) (replies_to_others events replies)

-- ===== All of it

-- however it was answered, what lasts of a trail leads to the site at rest behind it, with the lives that it knows then
abbrev pub AllIsReplayed : Type 0
AllIsReplayed =
    (a b : Acquainted) (events : List Event) (replies : List (List ℕ)) → Answers acquainted_machine a events replies b →
    replay_things (things_of_answers a events replies) (all_at_rest a) ≡ all_at_rest b

-- a front of these events was answered with a front of these replies, and led to a site that is this one at rest
pub record LedTo (a : Acquainted) (events : List Event) (replies : List (List ℕ)) (rest : Acquainted) : Type 0 where
  pub done : List Event
  pub undone : List Event
  pub done_replies : List (List ℕ)
  pub undone_replies : List (List ℕ)
  pub state : Acquainted
  pub events_are : events ≡ done ++ undone
  pub replies_are : replies ≡ done_replies ++ undone_replies
  pub answered : Answers acquainted_machine a done done_replies state
  pub rests : all_at_rest state ≡ rest

-- a front of what lasts of a trail leads to the site at rest behind a front of the trail
abbrev pub FrontsAreOfFronts : Type 0
FrontsAreOfFronts =
    (a b : Acquainted) (events : List Event) (replies : List (List ℕ)) (kept lost : List LastingThing) → Answers acquainted_machine a events replies b →
    things_of_answers a events replies ≡ kept ++ lost → LedTo a events replies (replay_things kept (all_at_rest a))

-- no other life is known before the own one
abbrev pub OwnCameFirst : Acquainted → Type 0
OwnCameFirst a = IsTrue (is_none (life_of a.lives a.site.own)) → IsTrue (list_all is_none a.lives)

-- what lasts of a trail may be taken back, and each front of it
abbrev pub AllFits : Type 0
AllFits =
    (a b : Acquainted) (events : List Event) (replies : List (List ℕ)) (kept lost : List LastingThing) →
    IsTrue (list_all (λ event. is_u16 event.0) events) → IsSound a.site → OwnCameFirst a → Answers acquainted_machine a events replies b →
    things_of_answers a events replies ≡ kept ++ lost →
    IsTrue (are_things kept) × IsTrue (all_things_fit (all_at_rest a) kept)

-- bytes are taken back in one way at most
abbrev pub OneWayBack : Type 0
OneWayBack = (a b c : Acquainted) (bytes : List ℕ) → TakesBack a bytes b → TakesBack a bytes c → b ≡ c

-- ===== Bytes behind bytes

-- what took bytes back is at rest
abbrev pub BytesLeaveAtRest : Type 0
BytesLeaveAtRest = (a behind : Acquainted) (bytes : List ℕ) → TakesBack a bytes behind → all_at_rest behind ≡ behind

-- bytes that are taken back one after another are taken back as one
abbrev pub BytesGoOn : Type 0
BytesGoOn =
    (a between behind : Acquainted) (bytes more : List ℕ) → TakesBack a bytes between → TakesBack between more behind → TakesBack a (bytes ++ more) behind

-- where no other life is known before the own one, so it is behind what was taken back
abbrev pub BytesKeepOrder : Type 0
BytesKeepOrder = (a behind : Acquainted) (bytes : List ℕ) → OwnCameFirst a → TakesBack a bytes behind → OwnCameFirst behind

-- what is all that was added to the site at rest, and fits it, is taken back by it and leads to the site behind it, at rest
abbrev pub AdditionsGoOn : Type 0
AdditionsGoOn =
    (a : Acquainted) (next : Site) (added : Option Lasting) →
    ((l : Lasting) → added ≡ Some l → IsTrue (is_lasting l) × IsTrue (fits (at_rest a.site) l)) →
    replay (option_to_list added) (at_rest a.site) ≡ at_rest next →
    TakesBack (all_at_rest a) (all_spellings (option_to_list (option_map OfSite added))) (all_at_rest (record a { site = next }))

-- so is what lasts of an event
abbrev pub EventsGoOn : Type 0
EventsGoOn =
    (a : Acquainted) (e : Event) → IsTrue (is_u16 e.0) → IsSound a.site → OwnCameFirst a →
    TakesBack (all_at_rest a) (lasting_bytes a e) (all_at_rest (acquainted_machine.step a e))

-- ===== Soundness

-- the site is sound, and what a checkpoint has told so far is told well
pub record IsAllSound (a : Acquainted) : Type 0 where
  pub site : IsSound a.site
  pub told : IsToldWell a.site.limits a.told

-- where nothing was told, all is sound if the site is
abbrev pub UntoldIsSound : Type 0
UntoldIsSound = (a : Acquainted) → IsSound a.site → a.told ≡ untold → IsAllSound a

-- what a sound site takes back leaves it sound, under the same limits
abbrev pub BytesKeepSound : Type 0
BytesKeepSound =
    (a behind : Acquainted) (bytes : List ℕ) → IsAllSound a → TakesBack a bytes behind → IsAllSound behind × (behind.site.limits ≡ a.site.limits)

-- the one history goes on from the other, which stands in it whole, and no site's promise has a lower number
pub record GoesOnFrom (before behind : Site) : Type 0 where
  pub history : (newer : List Record) × (behind.dag ≡ newer ++ before.dag)
  pub promises : (n : ℕ) → (floor_of before.floors n).number ≤ (floor_of behind.floors n).number

-- what a sound site takes back takes nothing away: no checkpoint takes the place of a history
abbrev pub BytesTakeNothingAway : Type 0
BytesTakeNothingAway = (a behind : Acquainted) (bytes : List ℕ) → IsAllSound a → TakesBack a bytes behind → GoesOnFrom a.site behind.site

-- ===== Larger limits

-- the site under these limits, with the lives that it knows and what was told
abbrev pub all_under : Limits → Acquainted → Acquainted
all_under limits a = record a { site = under limits a.site }

-- bytes that a sound site takes back, it takes back under larger limits too, and becomes the same but for its limits
abbrev pub LargerLimitsTakeBytes : Type 0
LargerLimitsTakeBytes =
    (a behind : Acquainted) (larger : Limits) (bytes : List ℕ) → IsAllSound a → AreWithin a.site.limits larger → TakesBack a bytes behind →
    TakesBack (all_under larger a) bytes (all_under larger behind)
