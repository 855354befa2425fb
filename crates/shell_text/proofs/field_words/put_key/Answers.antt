use Rattle.std.proofs.Common.{◌∙◌, ap}
use Rattle.wire_item.specs.Readings.{key_front}
use Rattle.text_words.specs.Words.{byte_word}
use Rattle.text_words.specs.Puts.{putting, puts, spaced}
use Rattle.text_words.proofs.Putting.{says-puts}
use Rattle.shell_text.proofs.field_words.put_key.Goals as goal

pub returns : goal.returns
returns c =
    c.put_key.ensures ∙ ap (puts key_front (λ x. spaced (byte_word x))) c.say.ensures
    ∙ says-puts key_front (λ x. spaced (byte_word x)) c.args.name.now (putting c.args.unread.now c.args.out.now)
