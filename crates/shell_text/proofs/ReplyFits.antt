-- A reply that bytes of a frame spell has a line that fits.
use Rattle.std.proofs.Common.{◌≡◌, ℕ, ◌+◌, ◌≤◌, Bool, true, false, List, [], ◌∷◌, ◌++◌, length, Option, Some, None, ap, sym, ◌∙◌, refl, arith, codes}
use Rattle.tardis_base.specs.Sizes.{longest_frame}
use Rattle.tardis_base.specs.declared.replies.Reply.{Reply}
use Rattle.wire_item.proofs.Laws.{whole-source}
use Rattle.wire_talk.specs.ReplyReadings.{reply_front, reply_of}
use Rattle.wire_talk.specs.Spellings.{reply_spelling}
use Rattle.wire_talk.proofs.Replies.{reads-reply}
use Rattle.text_words.specs.Puts.{longest_line}
use Rattle.shell_text.specs.ReplyLines.{reply_line}
use Rattle.shell_text.proofs.Lengths.{reply-lines-fit}

pub reply-fits : (bytes : List ℕ) (r : Reply) → reply_of bytes ≡ Some r → length bytes ≤ longest_frame → length (reply_line r) ≤ longest_line
reply-fits bytes r e h =
    let x = reads-reply.only bytes r [] (whole-source reply_front bytes r e) in
    let same : bytes ≡ reply_spelling r = x.1 ∙ Rattle.std.proofs.Common.append-nil (reply_spelling r) in
    reply-lines-fit r x.0 (omega (arith, h, ap length same))
