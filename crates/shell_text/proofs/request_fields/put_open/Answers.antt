use Rattle.std.proofs.Common.{◌≤◌, true, false, ◌∷◌, Some, ◌∙◌, ap, subst, arith, refl, codes}
use Rattle.wire_item.specs.Fronts.{front_of_code}
use Rattle.wire_item.specs.Readings.{u8_front}
use Rattle.wire_talk.specs.RequestReadings.{flag_rows}
use Rattle.wire_talk.proofs.Arms.{front-beyond}
use Rattle.text_words.specs.Words.{line}
use Rattle.text_words.specs.Puts.{putting, spaced, TakesNext}
use Rattle.text_words.proofs.Sequences.{code-put, code-lost, says-nothing}
use Rattle.shell_text.specs.RequestLines.{name_if}
use Rattle.shell_text.proofs.Arms.{arm-lost}
use Rattle.shell_text.proofs.request_fields.put_open.Goals as goal

pub returns-in-None : goal.returns-in-None
returns-in-None c = code-lost flag_rows (λ f. spaced (line (codes "open" ∷ name_if f (codes "follow")))) refl c.args.unread.now c.u8.new.self
    c.args.out.now c.in-None.ensures

pub returns-in_default : goal.returns-in_default
returns-in_default c =
    let great : 2 ≤ c.in-Some.flag = omega arith in
    ap (λ o. putting o c.args.out.now) c.lose.ensures
    ∙ arm-lost (front_of_code c.in-Some.flag flag_rows) (λ f. spaced (line (codes "open" ∷ name_if f (codes "follow"))))
    (λ left. front-beyond 2 flag_rows c.in-Some.flag left refl great) (putting c.u8.new.self c.args.out.now)
    ∙ code-put flag_rows (λ f. spaced (line (codes "open" ∷ name_if f (codes "follow")))) c.args.unread.now c.in-Some.flag c.u8.new.self c.args.out.now
    c.in-Some.ensures

pub returns-in-0 : goal.returns-in-0
returns-in-0 c =
    c.say.ensures ∙ says-nothing false (λ f. spaced (line (codes "open" ∷ name_if f (codes "follow")))) (putting c.u8.new.self c.args.out.now)
    ∙ code-put flag_rows (λ f. spaced (line (codes "open" ∷ name_if f (codes "follow")))) c.args.unread.now 0 c.u8.new.self c.args.out.now
    (subst (λ k. TakesNext u8_front c.args.unread.now (Some k) c.u8.new.self) c.in-0.is c.in-Some.ensures)

pub returns-in-1 : goal.returns-in-1
returns-in-1 c =
    c.say-in-1.ensures ∙ says-nothing true (λ f. spaced (line (codes "open" ∷ name_if f (codes "follow")))) (putting c.u8.new.self c.args.out.now)
    ∙ code-put flag_rows (λ f. spaced (line (codes "open" ∷ name_if f (codes "follow")))) c.args.unread.now 1 c.u8.new.self c.args.out.now
    (subst (λ k. TakesNext u8_front c.args.unread.now (Some k) c.u8.new.self) c.in-1.is c.in-Some.ensures)
