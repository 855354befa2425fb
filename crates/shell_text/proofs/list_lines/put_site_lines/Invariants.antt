use Rattle.std.proofs.Common.{◌≡◌}
use Rattle.wire_item.specs.Fronts.{times}
use Rattle.wire_talk.specs.ReplyReadings.{site_line_front}
use Rattle.text_words.specs.Puts.{putting, puts, spaced, texts}
use Rattle.shell_text.specs.ReplyLines.{site_line_word}
use Rattle.shell_text.proofs.list_lines.put_site_lines.Given as goal

abbrev pub invariant-loop-place : goal.invariant-loop-place
invariant-loop-place l = putting l.unread l.out ≡ puts (times site_line_front l._place) (texts l.fn.lead (λ l. spaced (site_line_word l)))
    (putting l.fn.unread l.fn.out)
