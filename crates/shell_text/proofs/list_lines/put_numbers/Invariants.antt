use Rattle.std.proofs.Common.{◌≡◌}
use Rattle.wire_item.specs.Fronts.{times}
use Rattle.wire_item.specs.Readings.{u32_front}
use Rattle.text_words.specs.Words.{number_word}
use Rattle.text_words.specs.Puts.{putting, puts, spaced, texts}
use Rattle.shell_text.proofs.list_lines.put_numbers.Given as goal

abbrev pub invariant-loop-place : goal.invariant-loop-place
invariant-loop-place l = putting l.unread l.out ≡ puts (times u32_front l._place) (texts l.fn.lead (λ n. spaced (number_word n))) (putting l.fn.unread l.fn.out)
