use Rattle.std.proofs.Common.{refl, sym, ◌∙◌, true≢false, arith}
use Rattle.site_log.proofs.Making.{letters_more, name_of_letters, letter_of_name}
use Rattle.site_log.proofs.makes.is_name_in_part.Goals as goal

pub loop-i-preserved : goal.loop-i-preserved
loop-i-preserved c = letters_more c.args.bytes.now c.loop-i.i c.loop-i.invariant (c.is_letter.ensures.0 c.if-not-is_letter.false)

pub returns-then-not-is_letter : goal.returns-then-not-is_letter
returns-then-not-is_letter c = (
  λ yes. absurd (true≢false (sym yes)),
  λ m.
      absurd (true≢false (sym (c.is_letter.ensures.1 (letter_of_name c.args.bytes.now c.requires m c.loop-i.i (omega (arith, c.loop-i-test))))
      ∙ c.if-not-is_letter.true)),
)

pub returns : goal.returns
returns c = (λ yes. name_of_letters c.args.bytes.now c.requires (λ n less. c.loop-i.invariant n (omega (arith, less, c.loop-i-test))), λ m. refl)
