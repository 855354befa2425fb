use Rattle.std.proofs.Common.{sym, ◌∙◌, None, Some, refl}
use Rattle.text_words.proofs.LineWords.{behind-next, behind-ends}
use Rattle.text_words.proofs.words.Words.behind.Goals as goal

pub returns-in_err-words : goal.returns-in_err-words
returns-in_err-words c =
    c.from_residual.ensures
    ∙ sym (behind-ends c.args.prefix.now c.args.self.now c.loop-byte.words None c.loop-byte.byte-index c.loop-byte-test.true c.loop-byte.invariant
    c.in_err-words.ensures refl)

pub loop-byte-preserved : goal.loop-byte-preserved
loop-byte-preserved c =
    behind-next c.args.prefix.now c.args.self.now c.loop-byte.words (Some c.in_ok-words.words) c.loop-byte.byte-index c.loop-byte-test.true
    c.loop-byte.invariant c.in_ok-words.ensures
