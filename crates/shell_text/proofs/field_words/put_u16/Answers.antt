use Rattle.std.proofs.Common.{◌∙◌, ap}
use Rattle.wire_item.specs.Readings.{u16_front}
use Rattle.text_words.specs.Words.{number_word}
use Rattle.text_words.specs.Puts.{putting, puts, spaced}
use Rattle.text_words.proofs.Putting.{says-puts}
use Rattle.shell_text.proofs.field_words.put_u16.Goals as goal

pub returns : goal.returns
returns c =
    c.put_u16.ensures ∙ ap (puts u16_front (λ x. spaced (number_word x))) c.say.ensures
    ∙ says-puts u16_front (λ x. spaced (number_word x)) c.args.name.now (putting c.args.unread.now c.args.out.now)
