-- What it means that bytes spell a request or a reply.
use Rattle.std.specs.Prelude.{ℕ, List}
use Rattle.tardis_base.specs.declared.requests.Request.{Request}
use Rattle.tardis_base.specs.declared.replies.Reply.{Reply}
use Rattle.wire_item.specs.Spelled.{Spells}
use Rattle.wire_talk.specs.Spellings.{request_spelling, reply_spelling}
use Rattle.wire_talk.specs.Valid.{is_request, is_reply}

abbrev pub SpellsRequest : List ℕ → Request → Type 0
SpellsRequest = Spells is_request request_spelling

abbrev pub SpellsReply : List ℕ → Reply → Type 0
SpellsReply = Spells is_reply reply_spelling
