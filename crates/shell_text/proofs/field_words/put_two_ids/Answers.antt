use Rattle.std.proofs.Common.{◌∙◌, ◌++◌, ap}
use Rattle.wire_item.specs.Readings.{id_front}
use Rattle.text_words.specs.Words.{id_word}
use Rattle.text_words.specs.Puts.{putting, puts, spaced}
use Rattle.text_words.proofs.Putting.{puts-both}
use Rattle.shell_text.proofs.field_words.put_two_ids.Goals as goal

pub returns : goal.returns
returns c =
    c.put_id-2.ensures ∙ ap (puts id_front (λ x. spaced (id_word x))) c.put_id.ensures
    ∙ puts-both id_front id_front (λ x. c.args.name.now ++ spaced (id_word x)) (λ x. spaced (id_word x)) (putting c.args.unread.now c.args.out.now)
