use Rattle.std.proofs.Common.{◌∙◌, ◌++◌, ap}
use Rattle.wire_item.specs.Readings.{id_front, key_front}
use Rattle.text_words.specs.Words.{byte_word, id_word}
use Rattle.text_words.specs.Puts.{putting, puts, spaced}
use Rattle.text_words.proofs.Putting.{puts-both}
use Rattle.shell_text.proofs.field_words.put_key_and_id.Goals as goal

pub returns : goal.returns
returns c =
    c.put_id.ensures ∙ ap (puts id_front (λ x. spaced (id_word x))) c.put_key.ensures
    ∙ puts-both key_front id_front (λ x. c.args.name.now ++ spaced (byte_word x)) (λ x. spaced (id_word x)) (putting c.args.unread.now c.args.out.now)
