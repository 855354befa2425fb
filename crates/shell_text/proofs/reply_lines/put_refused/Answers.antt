use Rattle.std.proofs.Common.{◌∙◌, ap, codes}
use Rattle.wire_talk.specs.ReplyReadings.{refusal_front}
use Rattle.text_words.specs.Words.{line}
use Rattle.text_words.specs.Puts.{putting, puts, spaced}
use Rattle.text_words.proofs.Putting.{says-puts}
use Rattle.shell_text.specs.ReplyLines.{refusal_words}
use Rattle.shell_text.proofs.reply_lines.put_refused.Goals as goal

pub returns : goal.returns
returns c = c.put_refusal.ensures ∙ ap (puts refusal_front (λ r. spaced (line (refusal_words r)))) c.say.ensures
    ∙ says-puts refusal_front (λ r. spaced (line (refusal_words r))) (codes "refused") (putting c.args.unread.now c.args.out.now)
