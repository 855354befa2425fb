use Rattle.std.proofs.Common.{◌≡◌}
use Rattle.wire_item.specs.Fronts.{both, times}
use Rattle.wire_item.specs.Readings.{id_front, u32_front}
use Rattle.text_words.specs.Puts.{putting, puts, spaced, texts}
use Rattle.shell_text.specs.ReplyLines.{pair_word}
use Rattle.shell_text.proofs.list_lines.put_pairs.Given as goal

abbrev pub invariant-loop-place : goal.invariant-loop-place
invariant-loop-place l = putting l.unread l.out ≡ puts (times (both id_front u32_front) l._place) (texts l.fn.lead (λ p. spaced (pair_word p)))
    (putting l.fn.unread l.fn.out)
