use Rattle.std.proofs.Common.{◌∙◌, ap}
use Rattle.wire_item.specs.Readings.{id_front}
use Rattle.text_words.specs.Words.{id_word}
use Rattle.text_words.specs.Puts.{putting, puts, spaced}
use Rattle.text_words.proofs.Putting.{says-puts}
use Rattle.shell_text.proofs.field_words.put_id.Goals as goal

pub returns : goal.returns
returns c =
    c.put_id.ensures ∙ ap (puts id_front (λ x. spaced (id_word x))) c.say.ensures
    ∙ says-puts id_front (λ x. spaced (id_word x)) c.args.name.now (putting c.args.unread.now c.args.out.now)
