use Rattle.std.proofs.Common.{◌++◌, ◌∙◌, ap, codes}
use Rattle.wire_item.specs.Readings.{id_front, parents_front}
use Rattle.text_words.specs.Words.{id_word}
use Rattle.text_words.specs.Puts.{putting, puts, spaced, texts}
use Rattle.text_words.proofs.Putting.{puts-both}
use Rattle.shell_text.proofs.reply_lines.put_committed.Goals as goal

pub returns : goal.returns
returns c =
    c.put_parents.ensures ∙ ap (puts parents_front (texts (codes " from") (λ x. spaced (id_word x)))) c.put_id.ensures
    ∙ puts-both id_front parents_front (λ x. codes "committed" ++ spaced (id_word x)) (texts (codes " from") (λ x. spaced (id_word x)))
    (putting c.args.unread.now c.args.out.now)
