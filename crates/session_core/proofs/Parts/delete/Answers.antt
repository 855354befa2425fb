use Rattle.std.proofs.Common.{subst}
use Rattle.tardis_base.specs.declared.records.Write.TheVariants.{Delete as Deletion}
use Rattle.tardis_base.specs.declared.replies.Reply.TheVariants.{Done}
use Rattle.plain_site.specs.Reads.{set_key}
use Rattle.plain_site.specs.Answers.{with_txn}
use Rattle.session_core.specs.Stands.{CoreStands}
use Rattle.session_core.specs.Gives.{IsGiven, Stops}
use Rattle.session_core.proofs.Answers.{stopped}
use Rattle.session_core.proofs.Parts.delete.Goals as goal

pub returns : goal.returns
returns c = λ site stands sound.
    let n = c.args.actor in
    subst (λ k. IsGiven (CoreStands c.put.new.self) (with_txn site n (λ s t. set_key site n t k Deletion)) Done) c.in_ok-copy.ensures
    (c.in_ok-put.ensures site stands sound)

pub returns-in_err-put : goal.returns-in_err-put
returns-in_err-put c = λ site stands sound.
    let n = c.args.actor in
    let what = c.in_err-put.field-0.0 in
    stopped (CoreStands c.put.new.self) (with_txn site n (λ s t. set_key site n t c.args.key.now Deletion)) site what
    c.from_residual-in_err-put.result c.from_residual-in_err-put.ensures.1
    (subst (λ k. Stops (CoreStands c.put.new.self) (with_txn site n (λ s t. set_key site n t k Deletion)) site what) c.in_ok-copy.ensures
    (c.in_err-put.ensures site stands sound))
