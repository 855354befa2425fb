use Rattle.std.proofs.Common.{◌≡◌, ◌∙◌, sym}
use Rattle.plain_dag.specs.Writers.{read}
use Rattle.plain_questions.specs.declared.questions.Question.TheVariants.{At}
use Rattle.plain_questions.specs.declared.questions.Answered.TheVariants.{Read}
use Rattle.plain_questions.specs.Answer.{answer}
use Rattle.site_questions.proofs.Kept.{table-stands, table-names}
use Rattle.site_questions.proofs.Results.{ok-as}
use Rattle.site_questions.proofs.reads.tell_read.Goals as goal

pub returns-in-Ok : goal.returns-in-Ok
returns-in-Ok c = λ site stands.
    let store = c.args.store.now in
    let x = c.args.state in
    let told = Read (read site.dag c.args.key.now x) in
    let kept = c.in-Ok.ensures.found site (table-stands store c.dag.result.now site.dag site.collected c.dag.ensures stands) in
    ok-as c.read_of.result (λ t. t ≡ told) (λ t. t ≡ answer site (At x c.args.key.now)) (λ t is. is ∙ sym (kept.1 told))
    (c.read_of.ensures site.dag site.collected stands x (table-names store c.dag.result.now c.in-Ok.slot x c.dag.ensures kept.0))

pub returns-in-Err : goal.returns-in-Err
returns-in-Err c = λ site stands.
    sym (c.in-Err.ensures.found site (table-stands c.args.store.now c.dag.result.now site.dag site.collected c.dag.ensures stands)
    (Read (read site.dag c.args.key.now c.args.state)))
