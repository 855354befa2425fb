use Rattle.std.proofs.Common.{ℕ, arith, List, ◌++◌, Some, ap, subst, ◌∙◌, refl, codes}
use Rattle.tardis_base.specs.declared.replies.Excess.{Excess}
use Rattle.tardis_base.specs.declared.replies.Excess.TheVariants.{WrittenKeys, ReadKeys, MergedStates}
use Rattle.wire_item.specs.Readings.{u8_front, u32_front}
use Rattle.wire_talk.specs.ReplyReadings.{excess_rows}
use Rattle.wire_talk.proofs.RequestFields.{rows-other}
use Rattle.text_words.specs.Words.{number_word}
use Rattle.text_words.specs.Puts.{putting, spaced, TakesNext}
use Rattle.shell_text.specs.ReplyLines.{excess_word}
use Rattle.shell_text.proofs.Arms.{coded-then, coded-then-lost, coded-then-refused}
use Rattle.shell_text.proofs.refusal_lines.put_too_many.Goals as goal

text : Excess × ℕ → List ℕ
text p = (codes " toomany" ++ spaced (excess_word p.0)) ++ spaced (number_word p.1)

pub returns-in-None : goal.returns-in-None
unfolding text
returns-in-None c = coded-then-lost excess_rows u32_front text refl c.args.unread.now c.u8.new.self c.args.out.now c.in-None.ensures

pub returns-in-1 : goal.returns-in-1
unfolding text
returns-in-1 c =
    c.put_u32.ensures
    ∙ coded-then excess_rows u32_front text c.args.unread.now 1 WrittenKeys c.u8.new.self c.args.out.now
    (subst (λ k. TakesNext u8_front c.args.unread.now (Some k) c.u8.new.self) c.in-1.is c.in-Some.ensures) refl

pub returns-in-2 : goal.returns-in-2
unfolding text
returns-in-2 c =
    c.put_u32-in-2.ensures
    ∙ coded-then excess_rows u32_front text c.args.unread.now 2 ReadKeys c.u8.new.self c.args.out.now
    (subst (λ k. TakesNext u8_front c.args.unread.now (Some k) c.u8.new.self) c.in-2.is c.in-Some.ensures) refl

pub returns-in-3 : goal.returns-in-3
unfolding text
returns-in-3 c =
    c.put_u32-in-3.ensures
    ∙ coded-then excess_rows u32_front text c.args.unread.now 3 MergedStates c.u8.new.self c.args.out.now
    (subst (λ k. TakesNext u8_front c.args.unread.now (Some k) c.u8.new.self) c.in-3.is c.in-Some.ensures) refl

pub returns-in_default : goal.returns-in_default
unfolding text
returns-in_default c =
    ap (λ o. putting o c.args.out.now) c.lose.ensures
    ∙ coded-then-refused excess_rows u32_front text c.args.unread.now c.in-Some.code c.u8.new.self c.args.out.now c.in-Some.ensures
    (λ left. rows-other excess_rows 1 3 c.in-Some.code left refl (λ m low high e. omega (arith, low, high, e)))
