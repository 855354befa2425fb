use Rattle.std.proofs.Common.{◌≤◌, ◌∷◌, Some, ◌∙◌, ap, subst, arith, refl, codes}
use Rattle.tardis_base.specs.declared.requests.Begin.TheVariants.{Any, Ancestor, Parent, At}
use Rattle.wire_item.specs.Fronts.{front_of_code}
use Rattle.wire_item.specs.Readings.{u8_front, id_front}
use Rattle.wire_talk.specs.RequestReadings.{begin_rows}
use Rattle.wire_talk.proofs.Arms.{front-beyond}
use Rattle.text_words.specs.Words.{line}
use Rattle.text_words.specs.Puts.{putting, spaced, TakesNext}
use Rattle.text_words.proofs.Putting.{puts-made}
use Rattle.text_words.proofs.Sequences.{code-put, code-lost, says-nothing}
use Rattle.shell_text.specs.RequestLines.{begin_words}
use Rattle.shell_text.proofs.Arms.{arm-lost}
use Rattle.shell_text.proofs.request_fields.put_begin.Goals as goal

pub returns-in-None : goal.returns-in-None
returns-in-None c = code-lost begin_rows (λ b. spaced (line (codes "begin" ∷ begin_words b))) refl c.args.unread.now c.u8.new.self c.args.out.now
    c.in-None.ensures

pub returns-in_default : goal.returns-in_default
returns-in_default c =
    let great : 4 ≤ c.in-Some.kind = omega arith in
    ap (λ o. putting o c.args.out.now) c.lose.ensures
    ∙ arm-lost (front_of_code c.in-Some.kind begin_rows) (λ b. spaced (line (codes "begin" ∷ begin_words b)))
    (λ left. front-beyond 4 begin_rows c.in-Some.kind left refl great) (putting c.u8.new.self c.args.out.now)
    ∙ code-put begin_rows (λ b. spaced (line (codes "begin" ∷ begin_words b))) c.args.unread.now c.in-Some.kind c.u8.new.self c.args.out.now c.in-Some.ensures

pub returns-in-0 : goal.returns-in-0
returns-in-0 c =
    c.say.ensures ∙ says-nothing Any (λ b. spaced (line (codes "begin" ∷ begin_words b))) (putting c.u8.new.self c.args.out.now)
    ∙ code-put begin_rows (λ b. spaced (line (codes "begin" ∷ begin_words b))) c.args.unread.now 0 c.u8.new.self c.args.out.now
    (subst (λ k. TakesNext u8_front c.args.unread.now (Some k) c.u8.new.self) c.in-0.is c.in-Some.ensures)

pub returns-in-1 : goal.returns-in-1
returns-in-1 c =
    c.say-in-1.ensures ∙ says-nothing Ancestor (λ b. spaced (line (codes "begin" ∷ begin_words b))) (putting c.u8.new.self c.args.out.now)
    ∙ code-put begin_rows (λ b. spaced (line (codes "begin" ∷ begin_words b))) c.args.unread.now 1 c.u8.new.self c.args.out.now
    (subst (λ k. TakesNext u8_front c.args.unread.now (Some k) c.u8.new.self) c.in-1.is c.in-Some.ensures)

pub returns-in-2 : goal.returns-in-2
returns-in-2 c =
    c.say-in-2.ensures ∙ says-nothing Parent (λ b. spaced (line (codes "begin" ∷ begin_words b))) (putting c.u8.new.self c.args.out.now)
    ∙ code-put begin_rows (λ b. spaced (line (codes "begin" ∷ begin_words b))) c.args.unread.now 2 c.u8.new.self c.args.out.now
    (subst (λ k. TakesNext u8_front c.args.unread.now (Some k) c.u8.new.self) c.in-2.is c.in-Some.ensures)

pub returns-in-3 : goal.returns-in-3
returns-in-3 c =
    c.put_id.ensures ∙ puts-made At id_front (λ b. spaced (line (codes "begin" ∷ begin_words b))) (putting c.u8.new.self c.args.out.now)
    ∙ code-put begin_rows (λ b. spaced (line (codes "begin" ∷ begin_words b))) c.args.unread.now 3 c.u8.new.self c.args.out.now
    (subst (λ k. TakesNext u8_front c.args.unread.now (Some k) c.u8.new.self) c.in-3.is c.in-Some.ensures)
