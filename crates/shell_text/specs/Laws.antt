-- The laws of the lines of requests and replies.
use Rattle.std.specs.Prelude.{ℕ, ◌≤◌, length, IsTrue}
use Rattle.tardis_base.specs.declared.requests.Request.{Request}
use Rattle.tardis_base.specs.declared.replies.Reply.{Reply}
use Rattle.tardis_base.specs.Sizes.{longest_frame}
use Rattle.wire_talk.specs.Spellings.{request_spelling, reply_spelling}
use Rattle.wire_talk.specs.Valid.{is_reply}
use Rattle.text_words.specs.Laws.{HasOneLine}
use Rattle.text_words.specs.Puts.{longest_line}
use Rattle.shell_text.specs.RequestLines.{request_line}
use Rattle.shell_text.specs.ReplyLines.{reply_line}
use Rattle.shell_text.specs.RequestTexts.{asked_of}
use Rattle.shell_text.specs.ReplyTexts.{line_reply_of}
use Rattle.shell_text.specs.Spelled.{is_asked}

abbrev pub RequestsHaveOneLine : Type 0
RequestsHaveOneLine = HasOneLine is_asked request_line asked_of

abbrev pub RepliesHaveOneLine : Type 0
RepliesHaveOneLine = HasOneLine is_reply reply_line line_reply_of

-- the line of a reply that fits a frame has room in the buffer of a line
abbrev pub ReplyLinesFit : Type 0
ReplyLinesFit = (r : Reply) → IsTrue (is_reply r) → length (reply_spelling r) ≤ longest_frame → length (reply_line r) ≤ longest_line

-- so has the line of a request
abbrev pub RequestLinesFit : Type 0
RequestLinesFit = (asked : ℕ × Request) → IsTrue (is_asked asked) → length (request_spelling asked.1) ≤ longest_frame
    → length (request_line asked) ≤ longest_line
