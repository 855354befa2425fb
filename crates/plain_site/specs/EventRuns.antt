-- Events in bytes are runs too, however they were answered: so the laws speak of each list of events that a site answers.
use Rattle.std.specs.Prelude.{◌≡◌, ◌⊎◌, ℕ, List, [], ◌∷◌, ◌++◌, Some, None, IsTrue}
use Rattle.std.specs.List.{list_all}
use Rattle.tardis_base.specs.declared.records.Limits.{Limits}
use Rattle.tardis_base.specs.declared.requests.Request.{Request}
use Rattle.tardis_base.specs.declared.replies.Reply.{Reply}
use Rattle.tardis_base.specs.Plain.{Event, Answers}
use Rattle.tardis_base.specs.Valid.{is_u16, is_within, are_limits}
use Rattle.wire_talk.specs.Spellings.{reply_spelling}
use Rattle.wire_talk.specs.RequestReadings.{request_of}
use Rattle.plain_site.specs.Site.{Site, opening}
use Rattle.plain_site.specs.Step.{step, site_machine}
use Rattle.plain_site.specs.RowWords.{Line, ◌asks◌=>◌}
use Rattle.plain_site.specs.ClientRuns.{IsRun, site_after}

-- what an event and the bytes of its reply are as a line; none, where the bytes spell no request
abbrev pub IsLineOf : Event → List ℕ → List Line → Type 0
IsLineOf event bytes lines =
    (request_of event.1 ≡ None) × (lines ≡ [])
    ⊎ ((q : Request) × (reply : Reply) × (request_of event.1 ≡ Some q) × (bytes ≡ reply_spelling reply) × (lines ≡ event.0 asks q => reply ∷ []))

-- what events and the bytes of their replies, oldest first, are as lines, newest first
abbrev pub AreLinesOf : List Event → List (List ℕ) → List Line → Type 0
AreLinesOf [] [] lines = lines ≡ []
AreLinesOf (event ∷ events) (bytes ∷ replies) lines =
    (later : List Line) × (first : List Line) × (lines ≡ later ++ first) × IsLineOf event bytes first × AreLinesOf events replies later
AreLinesOf [] (bytes ∷ replies) lines = ⊥
AreLinesOf (event ∷ events) [] lines = ⊥

-- whatever bytes actors send to a site that opens, and however these are answered, memory's wants included: the lines of what
-- they ask are a run, and it leads to the same site
abbrev pub EventsAreRuns : Type 0
EventsAreRuns =
    (limits : Limits) (own : ℕ) (events : List Event) (replies : List (List ℕ)) (last : Site) →
    IsTrue (are_limits limits) → IsTrue (is_within 1 limits.sites own) → IsTrue (list_all (λ event. is_u16 event.0) events) →
    Answers site_machine (opening limits own) events replies last →
    (lines : List Line) × IsRun step (opening limits own) lines × (site_after step (opening limits own) lines ≡ last) × AreLinesOf events replies lines
