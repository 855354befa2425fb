use Rattle.std.proofs.Common.{◌≡◌, ◌++◌, List, ℕ, sym, ap, ◌∙◌}
use Rattle.tardis_base.specs.declared.replies.Refusal.TheVariants.{Unsupported}
use Rattle.tardis_base.specs.declared.replies.Reply.TheVariants.{Refused}
use Rattle.wire_talk.specs.Spellings.{reply_spelling}
use Rattle.site_lives.specs.Acquainted.{Acquainted}
use Rattle.rest_site.specs.Stands.{AcquaintedStands}
use Rattle.site_doors.specs.Rules.{told, told_at}
use Rattle.site_doors.proofs.Seen.{on_ok}
use Rattle.site_doors.proofs.Told.{told-question, told-refused, sure-question}
use Rattle.site_doors.proofs.answers.answer_by_code.Goals as goal

pub returns-then-is_question-clause-told : goal.returns-then-is_question-clause-told
returns-then-is_question-clause-told c =
    let body = c.args.body.now in
    let site = c.args.site.now in
    let listed = sym c.is_question.ensures ∙ c.if-is_question.true in
    on_ok c.tell.result
    ((a : Acquainted) → AcquaintedStands site a → c.tell.new.out ≡ told a body)
    ((a : Acquainted) → AcquaintedStands site a → c.tell.new.out ≡ told_at c.args.door a body)
    c.tell.ensures.told
    (λ f a stands. f a stands ∙ told-question c.args.door c.first_byte-code.result body c.first_byte-code.ensures listed a)

pub returns-then-is_question-clause-sure : goal.returns-then-is_question-clause-sure
returns-then-is_question-clause-sure c = λ sure.
    c.tell.ensures.sure
    (sure-question c.args.door c.first_byte-code.result c.args.body.now c.first_byte-code.ensures (sym c.is_question.ensures ∙ c.if-is_question.true) sure)

pub returns-else-is_question-clause-told : goal.returns-else-is_question-clause-told
returns-else-is_question-clause-told c = λ a stands.
    let code = c.first_byte-code.result in
    c.write_refused.ensures
    ∙ (ap (λ (o : List ℕ). o ++ reply_spelling (Refused (Unsupported code))) c.clear.ensures
    ∙ told-refused c.args.door code c.args.body.now c.first_byte-code.ensures (sym c.is_question.ensures ∙ c.if-is_question.false) a)
