-- The laws of the spellings of requests and replies.
use Rattle.std.specs.Prelude.{◌≡◌, ℕ, List, ◌∷◌}
use Rattle.tardis_base.specs.declared.replies.Reply.TheVariants.{NoMemory}
use Rattle.tardis_base.specs.Plain.{no_memory}
use Rattle.tardis_base.specs.declared.requests.Request.{Request}
use Rattle.wire_item.specs.Laws.{HasOneSpelling}
use Rattle.wire_talk.specs.Codes.{code_of}
use Rattle.wire_talk.specs.Spellings.{request_spelling, reply_spelling}
use Rattle.wire_talk.specs.Valid.{is_request, is_reply}
use Rattle.wire_talk.specs.RequestReadings.{request_of}
use Rattle.wire_talk.specs.ReplyReadings.{reply_of}

abbrev pub RequestsHaveOneSpelling : Type 0
RequestsHaveOneSpelling = HasOneSpelling is_request request_spelling request_of

abbrev pub RepliesHaveOneSpelling : Type 0
RepliesHaveOneSpelling = HasOneSpelling is_reply reply_spelling reply_of

-- a request's spelling begins with its code
abbrev pub RequestsBeginWithTheirCode : Type 0
RequestsBeginWithTheirCode = (q : Request) → (fields : List ℕ) × (request_spelling q ≡ code_of q ∷ fields)

-- the reply NoMemory is spelled as each machine answers it
abbrev pub NoMemoryIsSpelled : Type 0
NoMemoryIsSpelled = reply_spelling NoMemory ≡ no_memory
