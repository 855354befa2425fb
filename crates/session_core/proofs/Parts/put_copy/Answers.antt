use Rattle.std.proofs.Common.{subst}
use Rattle.tardis_base.specs.declared.records.Write.TheVariants.{Put as Value}
use Rattle.tardis_base.specs.declared.replies.Reply.TheVariants.{Done}
use Rattle.plain_site.specs.Reads.{set_key}
use Rattle.plain_site.specs.Answers.{with_txn}
use Rattle.session_core.specs.Stands.{CoreStands}
use Rattle.session_core.specs.Gives.{IsGiven, Stops}
use Rattle.session_core.proofs.Answers.{stopped}
use Rattle.session_core.proofs.Parts.put_copy.Goals as goal

pub returns : goal.returns
returns c = λ site stands sound.
    let n = c.args.actor in
    let copied = subst (λ k. IsGiven (CoreStands c.put.new.self) (with_txn site n (λ s t. set_key site n t k (Value c.in_ok-copy-2.field-0))) Done)
    c.in_ok-copy.ensures (c.in_ok-put.ensures site stands sound) in
    subst (λ v. IsGiven (CoreStands c.put.new.self) (with_txn site n (λ s t. set_key site n t c.args.key.now (Value v))) Done) c.in_ok-copy-2.ensures copied

pub returns-in_err-put : goal.returns-in_err-put
returns-in_err-put c = λ site stands sound.
    let n = c.args.actor in
    let what = c.in_err-put.field-0.0 in
    let copied = subst (λ k. Stops (CoreStands c.put.new.self) (with_txn site n (λ s t. set_key site n t k (Value c.in_ok-copy-2.field-0))) site what)
    c.in_ok-copy.ensures (c.in_err-put.ensures site stands sound) in
    stopped (CoreStands c.put.new.self) (with_txn site n (λ s t. set_key site n t c.args.key.now (Value c.args.value.now))) site what
    c.from_residual-in_err-put.result c.from_residual-in_err-put.ensures.1
    (subst (λ v. Stops (CoreStands c.put.new.self) (with_txn site n (λ s t. set_key site n t c.args.key.now (Value v))) site what) c.in_ok-copy-2.ensures
    copied)
