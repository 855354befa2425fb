use Rattle.std.proofs.Common.{refl, sym, subst}
use Rattle.session_core.specs.Held.{seen}
use Rattle.session_core.specs.Stands.{CoreStands}
use Rattle.session_core.proofs.Memory.{ended-held}
use Rattle.session_core.proofs.Standing.{txn-ended}
use Rattle.session_core.proofs.Parts.end_reading.Goals as goal

pub invariant_of-self : goal.invariant_of-self
invariant_of-self c = ended-held c.self.inside c.self.invariant c.args.actor c.end.new.self c.end.ensures

pub returns : goal.returns
returns c = λ site stands.
    let here = subst (λ v. CoreStands v site) (sym c.self.view_is) stands in
    (txn-ended (seen c.self.inside) site here c.args.actor c.end.new.self c.end.ensures, refl)
