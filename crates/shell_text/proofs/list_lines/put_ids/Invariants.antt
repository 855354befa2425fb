use Rattle.std.proofs.Common.{◌≡◌}
use Rattle.wire_item.specs.Fronts.{times}
use Rattle.wire_item.specs.Readings.{id_front}
use Rattle.text_words.specs.Words.{id_word}
use Rattle.text_words.specs.Puts.{putting, puts, spaced, texts}
use Rattle.shell_text.proofs.list_lines.put_ids.Given as goal

abbrev pub invariant-loop-place : goal.invariant-loop-place
invariant-loop-place l = putting l.unread l.out ≡ puts (times id_front l._place) (texts l.fn.lead (λ x. spaced (id_word x))) (putting l.fn.unread l.fn.out)
