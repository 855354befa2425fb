use Rattle.std.proofs.Common.{◌∙◌, ◌++◌, ap}
use Rattle.wire_item.specs.Readings.{u16_front, u32_front}
use Rattle.text_words.specs.Words.{number_word}
use Rattle.text_words.specs.Puts.{putting, puts, spaced}
use Rattle.text_words.proofs.Putting.{puts-both}
use Rattle.shell_text.proofs.field_words.put_u16_and_u32.Goals as goal

pub returns : goal.returns
returns c =
    c.put_u32.ensures ∙ ap (puts u32_front (λ x. spaced (number_word x))) c.put_u16.ensures
    ∙ puts-both u16_front u32_front (λ x. c.args.name.now ++ spaced (number_word x)) (λ x. spaced (number_word x)) (putting c.args.unread.now c.args.out.now)
