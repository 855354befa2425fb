use Rattle.std.proofs.Common.{◌≡◌, Some, IsTrue, IfSome, refl, sym, ap, subst, ◌∙◌}
use Rattle.std.specs.Option.{option_and_then}
use Rattle.state_dag.specs.Table.{id_at, is_slot}
use Rattle.version_list.specs.Versions.{versions_of}
use Rattle.record_store.specs.Store.{Store}
use Rattle.record_store.specs.Held.{seen}
use Rattle.record_store.proofs.Holding.{slot-is_kept_at, seen-stands}
use Rattle.record_store.proofs.LatestHolders.{holder-is_slot, holder-is_stand_in}
use Rattle.record_store.proofs.RecordStore.holder_at.Goals as goal

pub holder-requires-clause-kept : goal.holder-requires-clause-kept
holder-requires-clause-kept c = slot-is_kept_at c.self.inside c.args.self.now c.args.slot c.self.view_is c.self.invariant c.requires

pub returns-clause-slot : goal.returns-clause-slot
returns-clause-slot c =
    subst (λ (s : Store). IfSome c.holder.result (λ h. IsTrue (is_slot s.table h))) c.self.view_is
    (subst (λ o. IfSome o (λ h. IsTrue (is_slot c.self.inside.dag h))) (sym c.holder.ensures)
    (holder-is_slot c.self.inside.dag c.args.slot (versions_of c.self.inside.versions c.args.key.now)))

pub returns-clause-holder : goal.returns-clause-holder
returns-clause-holder c = λ rs ks stands x named.
    subst (λ (s : Store). option_and_then (id_at s.table) c.holder.result ≡ option_and_then (id_at c.self.inside.dag) c.holder.result) c.self.view_is refl
    ∙ (ap (option_and_then (id_at c.self.inside.dag)) c.holder.ensures
    ∙ holder-is_stand_in (seen c.self.inside) rs ks (seen-stands c.self.inside c.args.self.now c.self.view_is rs ks stands) c.args.slot x
    (subst (λ (s : Store). id_at s.table c.args.slot ≡ Some x) (sym c.self.view_is) named) c.args.key.now)
