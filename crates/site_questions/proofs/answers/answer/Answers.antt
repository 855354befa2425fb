use Rattle.std.proofs.Common.{sym, ap, ap₂, subst, ◌∙◌}
use Rattle.std.specs.Prelude.{◌≡◌, IfOk}
use Rattle.plain_questions.specs.declared.questions.Question.TheVariants.{Keys, Scan, Base}
use Rattle.plain_questions.specs.Answer.{answer}
use Rattle.site_questions.proofs.answers.answer.Goals as goal

pub returns-in-At-clause-told : goal.returns-in-At-clause-told
returns-in-At-clause-told c = λ plain stands.
    subst (λ q. IfOk c.tell_read.result (λ told. told ≡ answer plain q)) (sym c.in-At.is) (c.tell_read.ensures plain (c.store-store.ensures.stands plain stands.0))

pub returns-in-Keys-clause-told : goal.returns-in-Keys-clause-told
returns-in-Keys-clause-told c = λ plain stands.
    subst (λ q. IfOk c.tell_keys.result (λ told. told ≡ answer plain q)) (ap₂ (Keys c.in-Keys.state) c.as_slice.ensures c.as_slice-in-Keys.ensures ∙ sym c.in-Keys.is)
    (c.tell_keys.ensures plain (c.store-store.ensures.stands plain stands.0))

pub returns-in-Scan-clause-told : goal.returns-in-Scan-clause-told
returns-in-Scan-clause-told c = λ plain stands.
    subst (λ q. IfOk c.tell_entries.result (λ told. told ≡ answer plain q)) (ap₂ (Scan c.in-Scan.state) c.as_slice-in-Scan.ensures c.as_slice-in-Scan-2.ensures ∙ sym c.in-Scan.is)
    (c.tell_entries.ensures plain (c.store-store.ensures.stands plain stands.0))

pub returns-in-Record-clause-told : goal.returns-in-Record-clause-told
returns-in-Record-clause-told c = λ plain stands.
    subst (λ q. IfOk c.tell_record.result (λ told. told ≡ answer plain q)) (sym c.in-Record.is) (c.tell_record.ensures plain (c.store-store.ensures.stands plain stands.0))

pub returns-in-Base-clause-told : goal.returns-in-Base-clause-told
returns-in-Base-clause-told c = λ plain stands.
    subst (λ q. IfOk c.tell_base.result (λ told. told ≡ answer plain q)) (ap (λ xs. Base xs c.in-Base.key) c.as_slice-in-Base.ensures ∙ sym c.in-Base.is)
    (c.tell_base.ensures plain (c.store-store.ensures.stands plain stands.0) stands.1)

pub returns-in-Sessions-clause-told : goal.returns-in-Sessions-clause-told
returns-in-Sessions-clause-told c = λ plain stands.
    subst (λ q. IfOk c.tell_sessions.result (λ told. told ≡ answer plain q)) (sym c.in-Sessions.is) (c.tell_sessions.ensures plain stands)
