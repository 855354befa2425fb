-- Lines that answer lines of requests, and lines that tell what frames ask and what the reply is.
use Rattle.std.specs.Prelude.{◌≡◌, ℕ, Bool, false, ◌&&◌, List, [], ◌∷◌, ◌++◌, Option, Some, None, codes, option_map}
use Rattle.std.specs.Option.{option_map_or}
use Rattle.tardis_base.specs.declared.replies.Refusal.TheVariants.{Malformed}
use Rattle.tardis_base.specs.declared.replies.Reply.TheVariants.{Refused}
use Rattle.tardis_base.specs.Plain.{Event, PlainMachine, Answers}
use Rattle.frame_cut.specs.Events.{event_of}
use Rattle.wire_talk.specs.Memory.{takes_no_memory}
use Rattle.wire_talk.specs.RequestReadings.{request_of}
use Rattle.wire_talk.specs.Spellings.{request_spelling, reply_spelling}
use Rattle.shell_text.specs.RequestTexts.{asked_of}
use Rattle.shell_text.specs.Spelled.{request_line_of, reply_line_of}

-- the bytes of the reply to a line that is none of a request
abbrev pub malformed : List ℕ
malformed = reply_spelling (Refused Malformed)

-- whether the bytes spell a request that is read without memory
abbrev pub is_read_without_memory : List ℕ → Bool
is_read_without_memory bytes = option_map_or takes_no_memory (request_of bytes) false

-- The same machine, whose requests are read from lines first: memory can't fail those that it can't fail once they are read,
-- and that are read without any.
abbrev pub over_lines : {S : Type 0} → PlainMachine S → PlainMachine S
over_lines m = record { step = m.step; reply = m.reply; is_sure = λ event. m.is_sure event && is_read_without_memory event.1 }

-- what a line asks: where it is one of an actor's request, the event of the actor and the request's spelling
abbrev pub event_of_line : List ℕ → Option Event
event_of_line line = option_map (λ asked. (asked.0, request_spelling asked.1)) (asked_of line)

-- An event is replied to by a reply that answers it. Where none was asked, the reply is that this is malformed, and the state
-- stays.
abbrev pub AskedMay : {S : Type 0} → PlainMachine S → S → Option Event → List ℕ → S → Type 0
AskedMay m s (Some event) reply t = Answers m s (event ∷ []) (reply ∷ []) t
AskedMay m s None reply t = (reply ≡ malformed) × (t ≡ s)

-- a line may be answered by the line of a reply to what it asks, and a line feed
abbrev pub ShellMay : {S : Type 0} → PlainMachine S → S → List ℕ → List ℕ → S → Type 0
ShellMay m s line answer t = (reply : List ℕ) × ((answer ≡ reply_line_of reply ++ 10 ∷ []) × AskedMay m s (event_of_line line) reply t)

-- the line that tells what an actor's bytes ask, and what is replied
abbrev pub told_line : ℕ → List ℕ → List ℕ → List ℕ
told_line actor request reply = request_line_of actor request ++ codes " -> " ++ reply_line_of reply

-- a body may be answered by the line that tells its event and a reply that answers this, and a line feed
abbrev pub AuditMay : {S : Type 0} → PlainMachine S → S → List ℕ → List ℕ → S → Type 0
AuditMay m s body answer t =
    (reply : List ℕ) × ((answer ≡ told_line (event_of body).0 (event_of body).1 reply ++ 10 ∷ []) × Answers m s (event_of body ∷ []) (reply ∷ []) t)
