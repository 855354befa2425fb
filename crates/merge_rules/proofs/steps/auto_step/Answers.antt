use Rattle.std.proofs.Common.{IsTrue, ap, refl, sym, subst, ◌∙◌}
use Rattle.tardis_base.specs.declared.ids.Slot.{Slot}
use Rattle.state_dag.specs.Table.{is_slot}
use Rattle.merge_rules.specs.declared.steps.AutoEnd.TheVariants.{Single, Refused, Wide, Unmerged}
use Rattle.merge_rules.specs.Auto.{auto_step}
use Rattle.join_rules.specs.Settlings.{SettledAs}
use Rattle.merge_rules.specs.Steps.{Ends}
use Rattle.merge_rules.proofs.StepLaws.{none-at, leaves-at, settled-at, values-may-be-merged, step-refused, step-wide, step-unmerged, step-joins, ended-so, ended-short}
use Rattle.merge_rules.proofs.steps.auto_step.Goals as goal

pub returns-in_default-clause-plain : goal.returns-in_default-clause-plain
returns-in_default-clause-plain g c = λ site stands.
    let core = c.args.core.now in
    let store = g.A.StoredSite.kept core in
    ended-so (g.A.AnySite.stands core) site Single (auto_step site c.args.actor c.args.rules.now)
    (none-at store site (g.met.A.StoredSite.keeps core site stands) c.dag.result.now (c.dag.ensures ∙ ap (λ v. v.table) c.store.ensures.is)
    c.in_default.ensures.first c.args.actor c.args.rules.now)
    stands

pub returns-in_default-clause-opening : goal.returns-in_default-clause-opening
returns-in_default-clause-opening g c = refl

pub returns-in-Some-begin_refusal-clause-plain : goal.returns-in-Some-begin_refusal-clause-plain
returns-in-Some-begin_refusal-clause-plain g c = λ site stands.
    let core = c.args.core.now in
    let store = g.A.StoredSite.kept core in
    let sound = g.met.A.AnySite.sound core site stands in
    let keeps = g.met.A.StoredSite.keeps core site stands in
    let slots : Slot × Slot = (c.in-Some.a, c.in-Some.b) in
    let at = leaves-at store site sound keeps slots c.dag.result.now (c.dag.ensures ∙ ap (λ v. v.table) c.store.ensures.is) c.in-Some.ensures.first in
    ended-so (g.A.AnySite.stands core) site (Refused c.in-Some-begin_refusal.refusal) (auto_step site c.args.actor c.args.rules.now)
    (step-refused store.table site sound slots at c.args.actor c.args.rules.now c.in-Some-begin_refusal.refusal
    (c.in-Some-begin_refusal.ensures site stands))
    stands

pub returns-in-Some-begin_refusal-clause-opening : goal.returns-in-Some-begin_refusal-clause-opening
returns-in-Some-begin_refusal-clause-opening g c = refl

pub settle-requires-clause-a : goal.settle-requires-clause-a
settle-requires-clause-a g c =
    subst (λ t. IsTrue (is_slot t c.in-Some.a)) (c.dag.ensures ∙ ap (λ v. v.table) (c.store.ensures.is ∙ sym c.store-2.ensures.is)) c.in-Some.ensures.a

pub settle-requires-clause-b : goal.settle-requires-clause-b
settle-requires-clause-b g c =
    subst (λ t. IsTrue (is_slot t c.in-Some.b)) (c.dag.ensures ∙ ap (λ v. v.table) (c.store.ensures.is ∙ sym c.store-2.ensures.is)) c.in-Some.ensures.b

pub returns-in_err-keys-clause-plain : goal.returns-in_err-keys-clause-plain
returns-in_err-keys-clause-plain g c = λ site stands.
    ended-short (g.A.AnySite.stands c.args.core.now) site (auto_step site c.args.actor c.args.rules.now) c.in_err-keys.field-0.0 c.from_residual.result
    c.from_residual.ensures.1 stands

pub returns-in_err-keys-clause-opening : goal.returns-in_err-keys-clause-opening
returns-in_err-keys-clause-opening g c = refl

pub join-requires-clause-a : goal.join-requires-clause-a
join-requires-clause-a g c = subst (λ t. IsTrue (is_slot t c.in-Some.a)) (c.dag.ensures ∙ ap (λ v. v.table) c.store.ensures.is) c.in-Some.ensures.a

pub join-requires-clause-b : goal.join-requires-clause-b
join-requires-clause-b g c = subst (λ t. IsTrue (is_slot t c.in-Some.b)) (c.dag.ensures ∙ ap (λ v. v.table) c.store.ensures.is) c.in-Some.ensures.b

pub join-requires-clause-merges : goal.join-requires-clause-merges
join-requires-clause-merges g c = λ site stands x y ea eb valid.
    let core = c.args.core.now in
    let store = g.A.StoredSite.kept core in
    let sound = g.met.A.AnySite.sound core site stands in
    let keeps = g.met.A.StoredSite.keeps core site stands in
    let slots : Slot × Slot = (c.in-Some.a, c.in-Some.b) in
    let at = leaves-at store site sound keeps slots c.dag.result.now (c.dag.ensures ∙ ap (λ v. v.table) c.store.ensures.is) c.in-Some.ensures.first in
    let settled = settled-at store site sound keeps slots at c.store-2.result.now c.store-2.ensures.is c.args.rules.now c.in_ok-keys.field-0 c.in_ok-keys.ensures in
    values-may-be-merged store.table site sound slots at c.args.rules.now c.in-Values.writes
    (subst (SettledAs c.args.rules.now site.dag at.x at.y) c.in-Values.is settled) valid x y ea eb

pub returns-in-Wide-clause-plain : goal.returns-in-Wide-clause-plain
returns-in-Wide-clause-plain g c = λ site stands.
    let core = c.args.core.now in
    let store = g.A.StoredSite.kept core in
    let sound = g.met.A.AnySite.sound core site stands in
    let keeps = g.met.A.StoredSite.keeps core site stands in
    let slots : Slot × Slot = (c.in-Some.a, c.in-Some.b) in
    let at = leaves-at store site sound keeps slots c.dag.result.now (c.dag.ensures ∙ ap (λ v. v.table) c.store.ensures.is) c.in-Some.ensures.first in
    let settled = settled-at store site sound keeps slots at c.store-2.result.now c.store-2.ensures.is c.args.rules.now c.in_ok-keys.field-0 c.in_ok-keys.ensures in
    ended-so (g.A.AnySite.stands core) site (Wide c.in-Wide.keys) (auto_step site c.args.actor c.args.rules.now)
    (step-wide store.table site sound slots at c.args.actor c.args.rules.now (c.in_default-begin_refusal.ensures site stands) c.in-Wide.keys
    (subst (SettledAs c.args.rules.now site.dag at.x at.y) c.in-Wide.is settled))
    stands

pub returns-in-Unmerged-clause-plain : goal.returns-in-Unmerged-clause-plain
returns-in-Unmerged-clause-plain g c = λ site stands.
    let core = c.args.core.now in
    let store = g.A.StoredSite.kept core in
    let sound = g.met.A.AnySite.sound core site stands in
    let keeps = g.met.A.StoredSite.keeps core site stands in
    let slots : Slot × Slot = (c.in-Some.a, c.in-Some.b) in
    let at = leaves-at store site sound keeps slots c.dag.result.now (c.dag.ensures ∙ ap (λ v. v.table) c.store.ensures.is) c.in-Some.ensures.first in
    let settled = settled-at store site sound keeps slots at c.store-2.result.now c.store-2.ensures.is c.args.rules.now c.in_ok-keys.field-0 c.in_ok-keys.ensures in
    ended-so (g.A.AnySite.stands core) site (Unmerged c.in-Unmerged.key) (auto_step site c.args.actor c.args.rules.now)
    (step-unmerged store.table site sound slots at c.args.actor c.args.rules.now (c.in_default-begin_refusal.ensures site stands) c.in-Unmerged.key
    (subst (SettledAs c.args.rules.now site.dag at.x at.y) c.in-Unmerged.is settled))
    stands

pub returns-in-Values-clause-plain : goal.returns-in-Values-clause-plain
returns-in-Values-clause-plain g c = λ site stands.
    let core = c.args.core.now in
    let store = g.A.StoredSite.kept core in
    let sound = g.met.A.AnySite.sound core site stands in
    let keeps = g.met.A.StoredSite.keeps core site stands in
    let slots : Slot × Slot = (c.in-Some.a, c.in-Some.b) in
    let at = leaves-at store site sound keeps slots c.dag.result.now (c.dag.ensures ∙ ap (λ v. v.table) c.store.ensures.is) c.in-Some.ensures.first in
    let settled = settled-at store site sound keeps slots at c.store-2.result.now c.store-2.ensures.is c.args.rules.now c.in_ok-keys.field-0 c.in_ok-keys.ensures in
    subst (λ a. Ends (g.A.AnySite.stands c.join.new.core) a site c.join.result)
    (sym (step-joins store.table site sound slots at c.args.actor c.args.rules.now (c.in_default-begin_refusal.ensures site stands) c.in-Values.writes
    (subst (SettledAs c.args.rules.now site.dag at.x at.y) c.in-Values.is settled)))
    (c.join.ensures.joined site stands at.x at.y at.at_x at.at_y)

pub returns-in-Wide-clause-opening : goal.returns-in-Wide-clause-opening
returns-in-Wide-clause-opening g c = refl

pub returns-in-Unmerged-clause-opening : goal.returns-in-Unmerged-clause-opening
returns-in-Unmerged-clause-opening g c = refl

pub returns-in-Values-clause-opening : goal.returns-in-Values-clause-opening
returns-in-Values-clause-opening g c = c.join.ensures.opening
