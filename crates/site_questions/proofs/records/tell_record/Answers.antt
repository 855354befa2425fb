use Rattle.std.proofs.Common.{◌≡◌, ◌∙◌, sym}
use Rattle.plain_questions.specs.Answer.{record_told, answer}
use Rattle.site_questions.proofs.Kept.{table-stands, table-names}
use Rattle.plain_questions.specs.declared.questions.Question.TheVariants.{Record as RecordOf}
use Rattle.site_questions.proofs.Results.{ok-as}
use Rattle.site_questions.proofs.records.tell_record.Goals as goal

pub returns-in-Err : goal.returns-in-Err
returns-in-Err c = λ site stands.
    sym (c.in-Err.ensures.found site (table-stands c.args.store.now c.dag.result.now site.dag site.collected c.dag.ensures stands)
    (record_told site c.args.state))

pub returns-in-Ok : goal.returns-in-Ok
returns-in-Ok c = λ site stands.
    let store = c.args.store.now in
    let x = c.args.state in
    let kept = c.in-Ok.ensures.found site (table-stands store c.dag.result.now site.dag site.collected c.dag.ensures stands) in
    ok-as c.record_at.result (λ told. told ≡ record_told site x) (λ told. told ≡ answer site (RecordOf x))
    (λ told is. is ∙ sym (kept.1 (record_told site x)))
    (c.record_at.ensures site stands x (table-names store c.dag.result.now c.in-Ok.slot x c.dag.ensures kept.0))
