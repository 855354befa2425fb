use Rattle.std.proofs.Common.{◌∙◌, ◌++◌, ap}
use Rattle.wire_item.specs.Readings.{id_front, u32_front}
use Rattle.text_words.specs.Words.{id_word, number_word}
use Rattle.text_words.specs.Puts.{putting, puts, spaced}
use Rattle.text_words.proofs.Putting.{puts-both}
use Rattle.shell_text.proofs.field_words.put_id_and_u32.Goals as goal

pub returns : goal.returns
returns c =
    c.put_u32.ensures ∙ ap (puts u32_front (λ x. spaced (number_word x))) c.put_id.ensures
    ∙ puts-both id_front u32_front (λ x. c.args.name.now ++ spaced (id_word x)) (λ x. spaced (number_word x)) (putting c.args.unread.now c.args.out.now)
