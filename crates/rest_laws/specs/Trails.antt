-- Whole trails: what lasts of them, replayed, leads to the site at rest; and a front of it to the site after a front of the trail.
use Rattle.std.specs.Prelude.{◌≡◌, ℕ, bytes_eq, List, [], ◌∷◌, ◌++◌, option_to_list, if◌then◌else◌}
use Rattle.tardis_base.specs.declared.records.Limits.{Limits}
use Rattle.tardis_base.specs.declared.requests.Request.{Request}
use Rattle.tardis_base.specs.Plain.{Event, Answers, no_memory}
use Rattle.plain_site.specs.Site.{Site, opening}
use Rattle.plain_site.specs.Step.{site_machine}
use Rattle.plain_site.specs.Sound.{IsSound}
use Rattle.plain_site.specs.ClientRuns.{Service}
use Rattle.plain_site.specs.Rest.{at_rest, Lasting, lasting_of, lasting_of_event, replay, lasting_between}

-- ===== Requests. They stand oldest first.

-- what actors asked
abbrev pub Asked : Type 0
Asked = List (ℕ × Request)

-- the site after these requests
abbrev pub after : Service → Site → Asked → Site
after service site [] = site
after service site (e ∷ later) = after service (service site e.0 e.1).0 later

-- what lasts of them
abbrev pub all_lasting : Service → Site → Asked → List Lasting
all_lasting service site [] = []
all_lasting service site (e ∷ later) =
    let answer = service site e.0 e.1 in
    option_to_list (lasting_of e.1 answer) ++ all_lasting service answer.0 later

-- what lasts of requests, replayed, leads from the site at rest to the site at rest after them; so from a site that opens
abbrev pub TrailsAreReplayed : Service → Type 0
TrailsAreReplayed service = (site : Site) (asked : Asked) → replay (all_lasting service site asked) (at_rest site) ≡ at_rest (after service site asked)

abbrev pub OpeningsAreReplayed : Service → Type 0
OpeningsAreReplayed service = (limits : Limits) (own : ℕ) (asked : Asked) →
    let start = opening limits own in
    replay (all_lasting service start asked) start ≡ at_rest (after service start asked)

-- ===== Events in bytes, and how they were answered

-- what lasts of events with these replies; where memory was wanting, nothing does
abbrev pub lasting_of_answers : Site → List Event → List (List ℕ) → List Lasting
lasting_of_answers site (event ∷ events) (reply ∷ replies) =
    let later = lasting_of_answers (site_machine.step site event) events replies in
    let undone = lasting_of_answers site events replies in
    if bytes_eq reply no_memory then undone else option_to_list (lasting_of_event site event) ++ later
lasting_of_answers site _ _ = []

-- what is kept of events with these replies. The laws are laws of that, so that they can be asked of a wrong one too
abbrev pub Keeping : Type 0
Keeping = Site → List Event → List (List ℕ) → List Lasting

-- however a site answered, memory's wants included, what is kept of that leads to where the answers led
abbrev pub AnswersAreReplayed : Keeping → Type 0
AnswersAreReplayed keeping = (site last : Site) (events : List Event) (replies : List (List ℕ)) → Answers site_machine site events replies last →
    replay (keeping site events replies) (at_rest site) ≡ at_rest last

-- a front of these events was answered with a front of these replies, and led to a site that is this one at rest
pub record LedTo (site : Site) (events : List Event) (replies : List (List ℕ)) (rest : Site) : Type 0 where
  pub done : List Event
  pub undone : List Event
  pub done_replies : List (List ℕ)
  pub undone_replies : List (List ℕ)
  pub state : Site
  pub events_are : events ≡ done ++ undone
  pub replies_are : replies ≡ done_replies ++ undone_replies
  pub answered : Answers site_machine site done done_replies state
  pub rests : at_rest state ≡ rest

-- Where all that is kept of the older events is there, and of the newer ones just a front, that leads to the site at rest after
-- the older events and a front of the newer ones. So where at least what is kept of all that was told is there, nothing of it
-- is lost, and nothing is made up.
abbrev pub KeptFrontsAreOfFronts : Keeping → Type 0
KeptFrontsAreOfFronts keeping =
    (site between last : Site) (older newer : List Event) (older_replies newer_replies : List (List ℕ)) (kept lost : List Lasting) →
    Answers site_machine site older older_replies between → Answers site_machine between newer newer_replies last →
    keeping between newer newer_replies ≡ kept ++ lost →
    LedTo between newer newer_replies (replay (keeping site older older_replies ++ kept) (at_rest site))

-- What is kept is had by looking at the site behind each answer: of one event it is what is new behind it; and what is kept of
-- later events stands behind what is kept of earlier ones.
pub record IsKeptAsSeen (keeping : Keeping) : Type 0 where
  pub one : (site next : Site) (event : Event) (reply : List ℕ) → IsSound site → Answers site_machine site (event ∷ []) (reply ∷ []) next →
      keeping site (event ∷ []) (reply ∷ []) ≡ option_to_list (lasting_between site next)
  pub later : (site between : Site) (older newer : List Event) (older_replies newer_replies : List (List ℕ)) →
      Answers site_machine site older older_replies between →
      keeping site (older ++ newer) (older_replies ++ newer_replies) ≡ keeping site older older_replies ++ keeping between newer newer_replies
