use Rattle.std.proofs.Common.{sym, ◌∙◌, ◌≡◌, true, arith, get_or}
use Rattle.std.specs.Char.{is_ascii_digit}
use Rattle.text_words.proofs.LineWords.{no-number, next-value, small-digit}
use Rattle.text_words.proofs.words.number_of.Goals as goal
use Rattle.text_words.proofs.words.number_of.Goals.{then-not-is_ascii_digit-via-then-not-is_ascii_digit}
use Rattle.text_words.proofs.words.number_of.Goals.{then-not-is_ascii_digit-via-else-not-is_ascii_digit+then-number-limit}

pub returns-then-not-is_ascii_digit : goal.returns-then-not-is_ascii_digit
returns-then-not-is_ascii_digit c =
    sym (no-number c.args.limit c.loop-byte.byte-index c.args.word.now c.requires c.loop-byte-test.true
    (λ digit below.
    elim c.then-not-is_ascii_digit.branch [
      | then-not-is_ascii_digit-via-then-not-is_ascii_digit w ↦
          let value = c.is_ascii_digit.ensures.value in
          let other = w.if-not-is_ascii_digit.true in
          absurd (cc)
      | then-not-is_ascii_digit-via-else-not-is_ascii_digit+then-number-limit w ↦
          absurd (omega (arith, below, w.if-number-limit.true, c.loop-byte.invariant.0))
    ]))

pub loop-byte-preserved : goal.loop-byte-preserved
loop-byte-preserved c =
    let digit : is_ascii_digit (get_or c.args.word.now c.loop-byte.byte-index 0) ≡ true = sym c.is_ascii_digit.ensures.value ∙ c.if-not-is_ascii_digit.false in
    let small = small-digit (get_or c.args.word.now c.loop-byte.byte-index 0) digit in (
      next-value c.args.word.now c.loop-byte.byte-index c.loop-byte.number c.from.result c.loop-byte-test.true digit c.loop-byte.invariant.0 c.from.ensures,
      omega (arith, small, c.from.ensures, c.if-number-limit.false, c.requires),
    )
