use Rattle.std.proofs.Common.{sym, subst}
use Rattle.session_core.specs.Held.{seen}
use Rattle.session_core.specs.Stands.{CoreStands}
use Rattle.session_core.specs.Guards.{HasTxn}
use Rattle.session_core.proofs.Standing.{has-txn}
use Rattle.session_core.proofs.Parts.open_txn.Goals as goal

pub returns-in-Some-clause-stands : goal.returns-in-Some-clause-stands
returns-in-Some-clause-stands c = λ site stands sound.
    let here = subst (λ v. CoreStands v site) (sym c.self.view_is) stands in
    subst (λ v. HasTxn v.store.table site c.args.actor c.in-Some.txn.now) c.self.view_is
    (has-txn (seen c.self.inside) site here c.args.actor sound c.in-Some.txn.now (sym c.in-Some.ensures))
