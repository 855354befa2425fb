use Rattle.std.proofs.Common.{ap, ap₂, ◌∙◌, ◌++◌, codes, arith}
use Rattle.text_words.specs.Puts.{putting, says}
use Rattle.text_words.specs.Words.{number_word}
use Rattle.auto_run.proofs.Ends.{said, wide-fits}
use Rattle.auto_run.proofs.end_lines.put_wide.Goals as goal

pub returns : goal.returns
returns c =
    said c.say_digits.new.self c.say_digits.new.out (codes "auto wide " ++ number_word c.args.keys)
    (c.say_digits.ensures ∙ ap (λ n. says (codes "auto wide " ++ number_word n) (putting c.new-unread.result c.clear.new.self)) c.from.ensures
    ∙ ap₂ (λ v o. says (codes "auto wide " ++ number_word c.args.keys) (putting v o)) c.new-unread.ensures c.clear.ensures)
    (wide-fits c.args.keys (omega (arith, c.from.type_inv, c.from.ensures)))
