use Rattle.std.proofs.Common.{ap, ap₂, ◌∙◌, ◌++◌, ◌∷◌, codes, arith, append_assoc}
use Rattle.text_words.specs.Puts.{putting, says}
use Rattle.text_words.specs.Words.{number_word}
use Rattle.auto_run.proofs.Ends.{said-both, merged-fits}
use Rattle.auto_run.proofs.end_lines.put_merged.Goals as goal

pub returns : goal.returns
returns c =
    said-both c.say_digits-2.new.self c.say_digits-2.new.out (codes "auto " ++ number_word c.args.id.site) (codes "." ++ number_word c.args.id.sequence)
    (c.say_digits-2.ensures ∙ ap (λ n. says (46 ∷ number_word n) (putting c.say_digits.new.self c.say_digits.new.out)) c.from-2.ensures
    ∙ ap (says (46 ∷ number_word c.args.id.sequence))
    (c.say_digits.ensures ∙ ap (λ n. says (codes "auto " ++ number_word n) (putting c.new-unread.result c.clear.new.self)) c.from.ensures
    ∙ ap₂ (λ v o. says (codes "auto " ++ number_word c.args.id.site) (putting v o)) c.new-unread.ensures c.clear.ensures))
    (merged-fits c.args.id.site c.args.id.sequence (omega (arith, c.from.type_inv, c.from.ensures)) (omega (arith, c.from-2.type_inv, c.from-2.ensures)))
    ∙ append_assoc (codes "auto ") (number_word c.args.id.site) (46 ∷ number_word c.args.id.sequence)
