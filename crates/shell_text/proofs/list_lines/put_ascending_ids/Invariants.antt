use Rattle.tardis_base.specs.declared.ids.StateId.{StateId}
use Rattle.tardis_base.specs.Ids.{are_ascending}
use Rattle.wire_item.specs.Readings.{id_front}
use Rattle.text_words.specs.Words.{id_word}
use Rattle.text_words.specs.Puts.{putting, spaced}
use Rattle.text_words.proofs.Ordered.{Ordered}
use Rattle.shell_text.proofs.list_lines.put_ascending_ids.Given as goal

abbrev pub invariant-loop-place : goal.invariant-loop-place
invariant-loop-place l = Ordered (λ (x : StateId). x) are_ascending id_front l.fn.lead (λ x. spaced (id_word x)) (putting l.fn.unread l.fn.out) l._place
    l.last (putting l.unread l.out)
