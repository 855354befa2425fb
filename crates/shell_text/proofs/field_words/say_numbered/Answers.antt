use Rattle.std.proofs.Common.{◌∙◌, ap}
use Rattle.text_words.specs.Words.{number_word}
use Rattle.text_words.specs.Puts.{putting, says, spaced}
use Rattle.text_words.proofs.Putting.{says-twice}
use Rattle.shell_text.proofs.field_words.say_numbered.Goals as goal

pub returns : goal.returns
returns c =
    c.say_number.ensures ∙ ap (says (spaced (number_word c.args.number))) c.say.ensures
    ∙ says-twice c.args.name.now (spaced (number_word c.args.number)) (putting c.args.unread.now c.args.out.now)
