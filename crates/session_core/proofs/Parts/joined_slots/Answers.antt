use Rattle.std.proofs.Common.{◌≡◌, ◌∙◌, ℕ, ◌==◌, not, List, Some, map, sym, ap, subst}
use Rattle.std.specs.Option.{option_copied}
use Rattle.tardis_base.specs.declared.ids.StateId.{StateId}
use Rattle.tardis_base.specs.declared.ids.Slot.{Slot}
use Rattle.state_dag.specs.Table.{id_at}
use Rattle.session_core.specs.Core.{Core}
use Rattle.session_core.specs.Stands.{CoreStands}
use Rattle.session_core.proofs.Parts.joined_slots.Goals as goal

pub returns-in_ok-copy-in-Some-clause-may : goal.returns-in_ok-copy-in-Some-clause-may
returns-in_ok-copy-in-Some-clause-may c = λ site stands named.
    let m = c.args.merge.now in
    let core = c.self.inside in
    let here = subst (λ v. CoreStands v site) (sym c.self.view_is) stands in
    let slots = subst (λ (v : Core). map (id_at v.store.table) m.slots ≡ map (λ (x : StateId). Some x) m.states) (sym c.self.view_is) named in
    let lent = subst (λ (xs : List Slot). map (id_at core.store.table) xs ≡ map (λ (x : StateId). Some x) m.states) (sym c.as_slice.ensures) slots in
    let found = c.in_ok-key.ensures site.dag site.collected here.store m.states lent in (
      ap (λ (x : ℕ). not (x == 0)) c.if-flags-ne0.false,
      sym found ∙ (ap option_copied c.in-Some.is ∙ ap (λ (k : List ℕ). Some k) (sym c.in_ok-copy-in-Some.ensures)),
    )
