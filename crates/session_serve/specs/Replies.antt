-- What a session asks, and what it is replied.
use Rattle.std.specs.Prelude.{◌≡◌, ℕ, List, [], ◌∷◌, length, map, nat_le, if◌then◌else◌, Some}
use Rattle.tardis_base.specs.Sizes.{longest_request}
use Rattle.tardis_base.specs.declared.requests.Request.TheVariants.{Close}
use Rattle.tardis_base.specs.declared.replies.Refusal.TheVariants.{TrailFull as FullTrail}
use Rattle.tardis_base.specs.declared.replies.Reply.TheVariants.{Refused}
use Rattle.tardis_base.specs.Plain.{Event, PlainMachine, reply_at, no_memory}
use Rattle.trail_log.specs.declared.acted.Acted.{Acted}
use Rattle.trail_log.specs.declared.acted.Acted.TheVariants.{Done, TrailFull, NoMemory}
use Rattle.wire_talk.specs.Spellings.{request_spelling, reply_spelling}
use Rattle.session_serve.specs.Turns.{Turn}

-- the request in a body: its bytes, or the empty one where they are more than a request may have
abbrev pub request_in : List ℕ → List ℕ
request_in body = if nat_le (length body) longest_request then body else []

-- what the bodies ask: each its request, by the session
abbrev pub asked_by : ℕ → List (List ℕ) → List Event
asked_by session bodies = map (λ body. (session, request_in body)) bodies

-- the Close of a session
abbrev pub close_of : ℕ → Event
close_of session = (session, request_spelling Close)

-- the reply to a request that wasn't answered
abbrev pub reply_without : Acted → List ℕ → List ℕ
reply_without Done reply = reply
reply_without (TrailFull bytes) reply = reply_spelling (Refused (FullTrail bytes))
reply_without NoMemory reply = no_memory

module _ {P : Type 0} (m : PlainMachine P) (start : P) (seen : List Event) where
  -- the plain reply at the request's place, or that the trail is full, or that memory is wanting
  abbrev pub IsReplyTo : ℕ → Acted → List ℕ → Type 0
  IsReplyTo found Done reply = reply_at m start seen found ≡ Some reply
  IsReplyTo found (TrailFull bytes) reply = reply ≡ reply_spelling (Refused (FullTrail bytes))
  IsReplyTo found NoMemory reply = reply ≡ no_memory

  -- these are the replies to the first of the turns, one each and in order
  abbrev pub AreReplies : List Turn → List (List ℕ) → Type 0
  AreReplies turns [] = Unit {0}
  AreReplies (t ∷ ts) (reply ∷ replies) = IsReplyTo t.found t.acted reply × AreReplies ts replies
  AreReplies [] (reply ∷ replies) = ⊥
