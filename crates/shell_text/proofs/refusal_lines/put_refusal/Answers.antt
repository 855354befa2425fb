use Rattle.std.proofs.Common.{◌∙◌, refl}
use Rattle.wire_talk.specs.ReplyReadings.{refusal_rows}
use Rattle.text_words.specs.Words.{line}
use Rattle.text_words.specs.Puts.{spaced}
use Rattle.text_words.proofs.Sequences.{code-put, code-lost}
use Rattle.shell_text.specs.ReplyLines.{refusal_words}
use Rattle.shell_text.proofs.refusal_lines.put_refusal.Goals as goal

pub returns-in-Some : goal.returns-in-Some
returns-in-Some c =
    c.put_coded_refusal.ensures
    ∙ code-put refusal_rows (λ r. spaced (line (refusal_words r))) c.args.unread.now c.in-Some.code c.u8.new.self c.args.out.now c.in-Some.ensures

pub returns-in-None : goal.returns-in-None
returns-in-None c =
    code-lost refusal_rows (λ r. spaced (line (refusal_words r))) refl c.args.unread.now c.u8.new.self c.args.out.now c.in-None.ensures
