use Rattle.std.proofs.Common.{IsTrue, is_some, refl, sym, subst}
use Rattle.session_core.specs.Txns.{has_slots}
use Rattle.session_core.proofs.Parts.get.Goals as goal

pub get_at-requires-clause-slot : goal.get_at-requires-clause-slot
get_at-requires-clause-slot c = subst (λ t. IsTrue (has_slots c.args.self.now.store.table t)) c.in-Single.is c.in_ok-single.ensures.slots

pub get_at-requires-clause-open : goal.get_at-requires-clause-open
get_at-requires-clause-open c = subst (λ found. IsTrue (is_some found)) (sym c.in_ok-single.ensures.found) refl

pub get_over-requires : goal.get_over-requires
get_over-requires c = subst (λ t. IsTrue (has_slots c.args.self.now.store.table t)) c.in-Merge.is c.in_ok-single.ensures.slots
