use Rattle.std.proofs.Common.{◌^◌, [], ◌++◌, ap, ap₂, ◌∙◌, arith, lt-ltb, length-append, codes}
use Rattle.text_words.specs.Puts.{putting, says}
use Rattle.text_words.specs.Words.{number_word}
use Rattle.text_words.proofs.Putting.{says-twice}
use Rattle.shell_text.proofs.Lengths.{u16-length}
use Rattle.shell_text.proofs.Finished.{said}
use Rattle.shell_text.proofs.request_lines.put_malformed_line.Goals as goal

pub returns : goal.returns
returns c =
    let short = u16-length c.args.actor (lt-ltb c.args.actor (2 ^ 16) (omega arith)) in
    said c.say.new.self c.say.new.out (number_word c.args.actor ++ codes " malformed") []
    (c.say.ensures
    ∙ ap (says (codes " malformed")) (c.say_digits.ensures ∙ ap (λ n. says (number_word n) (putting c.new-unread.result c.clear.new.self)) c.from.ensures)
    ∙ says-twice (number_word c.args.actor) (codes " malformed") (putting c.new-unread.result c.clear.new.self)
    ∙ ap₂ (λ v o. says (number_word c.args.actor ++ codes " malformed") (putting v o)) c.new-unread.ensures c.clear.ensures)
    (omega (arith, length-append (number_word c.args.actor) (codes " malformed"), short))
