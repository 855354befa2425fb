use Rattle.std.proofs.Common.{◌∙◌, ◌++◌, ap}
use Rattle.wire_item.specs.Readings.{id_front, value_front}
use Rattle.text_words.specs.Words.{byte_word, id_word}
use Rattle.text_words.specs.Puts.{putting, puts, spaced}
use Rattle.text_words.proofs.Putting.{puts-both}
use Rattle.shell_text.proofs.field_words.put_id_and_value.Goals as goal

pub returns : goal.returns
returns c =
    c.put_value.ensures ∙ ap (puts value_front (λ x. spaced (byte_word x))) c.put_id.ensures
    ∙ puts-both id_front value_front (λ x. c.args.name.now ++ spaced (id_word x)) (λ x. spaced (byte_word x)) (putting c.args.unread.now c.args.out.now)
