use Rattle.std.proofs.Common.{◌≡◌, ◌∙◌, sym}
use Rattle.plain_questions.specs.declared.questions.Question.TheVariants.{Scan as Asked}
use Rattle.plain_questions.specs.Contents.{entries_behind}
use Rattle.plain_questions.specs.Answer.{page_of_entries, answer}
use Rattle.site_questions.proofs.Kept.{table-stands, table-names}
use Rattle.site_questions.proofs.Results.{ok-as}
use Rattle.site_questions.proofs.pages.tell_entries.Goals as goal

pub returns-in-Err : goal.returns-in-Err
returns-in-Err c = λ site stands.
    sym (c.in-Err.ensures.found site (table-stands c.args.store.now c.dag.result.now site.dag site.collected c.dag.ensures stands)
    (page_of_entries (entries_behind site.dag c.args.state c.args.prefix.now c.args.after.now)))

pub returns-in-Ok : goal.returns-in-Ok
returns-in-Ok c = λ site stands.
    let store = c.args.store.now in
    let x = c.args.state in
    let page = page_of_entries (entries_behind site.dag x c.args.prefix.now c.args.after.now) in
    let kept = c.in-Ok.ensures.found site (table-stands store c.dag.result.now site.dag site.collected c.dag.ensures stands) in
    ok-as c.entries_at.result (λ told. told ≡ page) (λ told. told ≡ answer site (Asked x c.args.prefix.now c.args.after.now)) (λ told is. is ∙ sym (kept.1 page))
    (c.entries_at.ensures site.dag site.collected stands x (table-names store c.dag.result.now c.in-Ok.slot x c.dag.ensures kept.0))
