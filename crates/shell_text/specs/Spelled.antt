-- What it means that a line is one of a request, or one of a reply, and the line that stands for bytes.
use Rattle.std.specs.Prelude.{ℕ, Bool, ◌&&◌, List, [], ◌∷◌, codes}
use Rattle.std.specs.Option.{option_map_or}
use Rattle.tardis_base.specs.declared.requests.Request.{Request}
use Rattle.tardis_base.specs.declared.replies.Reply.{Reply}
use Rattle.tardis_base.specs.Valid.{is_u16}
use Rattle.wire_item.specs.Spelled.{Spells}
use Rattle.wire_talk.specs.Valid.{is_request, is_reply}
use Rattle.wire_talk.specs.RequestReadings.{request_of}
use Rattle.wire_talk.specs.ReplyReadings.{reply_of}
use Rattle.text_words.specs.Words.{line, number_word}
use Rattle.shell_text.specs.RequestLines.{request_line}
use Rattle.shell_text.specs.ReplyLines.{reply_line}

-- there are such an actor and such a request
abbrev pub is_asked : ℕ × Request → Bool
is_asked asked = is_u16 asked.0 && is_request asked.1

abbrev pub SpellsRequestLine : List ℕ → ℕ × Request → Type 0
SpellsRequestLine = Spells is_asked request_line

abbrev pub SpellsReplyLine : List ℕ → Reply → Type 0
SpellsReplyLine = Spells is_reply reply_line

-- the line of the reply that the bytes spell; no bytes where they spell none
abbrev pub reply_line_of : List ℕ → List ℕ
reply_line_of bytes = option_map_or reply_line (reply_of bytes) []

-- what stands for bytes that spell no request: the actor and a word
abbrev pub malformed_line : ℕ → List ℕ
malformed_line actor = line (number_word actor ∷ codes "malformed" ∷ [])

-- the line of the request that the bytes spell
abbrev pub request_line_of : ℕ → List ℕ → List ℕ
request_line_of actor bytes = option_map_or (λ request. request_line (actor, request)) (request_of bytes) (malformed_line actor)
