use Rattle.std.proofs.Common.{◌≡◌, ◌∷◌, [], List, map, IsTrue, refl, sym, ap, subst, arith}
use Rattle.tardis_base.specs.declared.ids.StateId.{StateId}
use Rattle.state_dag.specs.Table.{Entry, arrive_in_order, is_kept_at, arrival_at}
use Rattle.version_list.specs.Versions.{are_in_order}
use Rattle.record_store.specs.Stands.{shown_version}
use Rattle.record_store.proofs.Holding.{first-arrived}
use Rattle.record_store.specs.ChildNotes.{AreTrueNotes}
use Rattle.record_store.proofs.ChildNotes.{none-true}
use Rattle.record_store.proofs.RecordStore.new.Goals as goal

-- one entry stands in order
one-in_order : (es : List Entry) (x : StateId) → map (λ e. e.id) es ≡ x ∷ [] → IsTrue (arrive_in_order es)
one-in_order [] x is = absurd (let bad : ⊥ = cc in bad)
one-in_order (e ∷ []) x is = refl
one-in_order (e ∷ f ∷ es) x is = absurd (let bad : ⊥ = cc in bad)

pub invariant_of-result : goal.invariant_of-result
invariant_of-result c = record {
  in_order = one-in_order c.in_ok-new.field-0.entries _ c.in_ok-new.ensures.stands.ids;
  versions =
      λ k. subst (λ vs. IsTrue (are_in_order (is_kept_at c.in_ok-new.field-0) (arrival_at c.in_ok-new.field-0) vs)) (sym (c.new-2.ensures.empty k)) refl;
  noted = λ s t kept kept_t before. absurd (let first = first-arrived c.in_ok-new.field-0 c.in_ok-new.ensures.stands s in omega (arith, first, before));
  children = subst (AreTrueNotes c.in_ok-new.field-0 c.new-2.result) (sym c.new-3.ensures) (none-true c.in_ok-new.field-0 c.new-2.result);
}

pub returns-clause-stands : goal.returns-clause-stands
returns-clause-stands c = record { table = c.in_ok-new.ensures.stands; versions = λ k. ap (map (shown_version c.in_ok-new.field-0)) (c.new-2.ensures.empty k) }
