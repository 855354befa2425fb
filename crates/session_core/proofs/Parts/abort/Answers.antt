use Rattle.std.proofs.Common.{refl, sym, subst}
use Rattle.tardis_base.specs.declared.replies.Reply.TheVariants.{Done}
use Rattle.plain_site.specs.Answers.{with_txn}
use Rattle.plain_site.specs.Commits.{abort}
use Rattle.session_core.specs.Held.{seen}
use Rattle.session_core.specs.Stands.{CoreStands}
use Rattle.session_core.proofs.Answers.{as-given}
use Rattle.session_core.proofs.Memory.{ended-held}
use Rattle.session_core.proofs.Standing.{has-answer, txn-ended}
use Rattle.session_core.proofs.Parts.abort.Goals as goal

pub invariant_of-self : goal.invariant_of-self
invariant_of-self c = ended-held c.self.inside c.self.invariant c.args.actor c.end.new.self c.end.ensures

pub returns-clause-given : goal.returns-clause-given
returns-clause-given c = λ site stands sound.
    let here = subst (λ v. CoreStands v site) (sym c.self.view_is) stands in
    let n = c.args.actor in
    let txn = c.in_ok-open_txn.field-0.now in
    as-given (CoreStands (record (seen c.self.inside) { txns = c.end.new.self })) (with_txn site n (λ s t. abort site n)) (abort site n) Done
    (has-answer c.args.self.now.store.table site n txn (c.in_ok-open_txn.ensures.stands site stands sound) (λ t. abort site n))
    (txn-ended (seen c.self.inside) site here n c.end.new.self c.end.ensures, refl)
