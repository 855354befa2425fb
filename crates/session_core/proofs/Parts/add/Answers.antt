use Rattle.std.proofs.Common.{◌≡◌, ◌≤◌, List, Some, IsTrue, length, map, take, refl, sym, subst}
use Rattle.std.specs.List.{list_all}
use Rattle.tardis_base.specs.declared.ids.StateId.{StateId}
use Rattle.tardis_base.specs.declared.replies.Reply.TheVariants.{Applied}
use Rattle.state_dag.specs.Table.{id_at, is_listed, is_slot}
use Rattle.record_store.proofs.Records.{named-are_slots}
use Rattle.site_exchange.specs.Judgements.{IsAddable}
use Rattle.plain_site.specs.Answers.{unless}
use Rattle.plain_site.specs.Commits.{with_record, growth_refusals}
use Rattle.session_core.specs.Held.{seen}
use Rattle.session_core.specs.Stands.{CoreStands}
use Rattle.site_answers.specs.Stops.{add_stop}
use Rattle.session_core.proofs.Answers.{as-given, stopped}
use Rattle.session_core.proofs.Exchanging.{record-shape, fit-may-be-added, grown-site, grown-parts, growth-free, growth-stops}
use Rattle.session_core.proofs.Parts.add.Goals as goal

pub slots_of-slots-requires-clause-few : goal.slots_of-slots-requires-clause-few
slots_of-slots-requires-clause-few c =
    subst (λ (xs : List StateId). length xs ≤ 8) (sym c.as_slice.ensures) (record-shape c.args.rec c.requires.valid).1

pub slots_of-slots-requires-clause-listed : goal.slots_of-slots-requires-clause-listed
slots_of-slots-requires-clause-listed c =
    let addable = subst (λ v. IsAddable v.store.table c.args.rec) (sym c.self.view_is) c.requires.fit in
    subst (λ (xs : List StateId). IsTrue (list_all (is_listed c.self.inside.store.table) xs)) (sym c.as_slice.ensures) addable.parents

pub commit-added-requires-clause-first : goal.commit-added-requires-clause-first
commit-added-requires-clause-first c = (record-shape c.args.rec c.requires.valid).0

pub commit-added-requires-clause-last : goal.commit-added-requires-clause-last
commit-added-requires-clause-last c = (subst (λ v. IsAddable v.store.table c.args.rec) (sym c.self.view_is) c.requires.fit).last

pub commit-added-requires-clause-next : goal.commit-added-requires-clause-next
commit-added-requires-clause-next c = (subst (λ v. IsAddable v.store.table c.args.rec) (sym c.self.view_is) c.requires.fit).next

pub commit-added-requires-clause-slots : goal.commit-added-requires-clause-slots
commit-added-requires-clause-slots c =
    let table = c.self.inside.store.table in
    let ps = c.args.rec.parents in
    let named = subst (λ (xs : List StateId). map (id_at table) (take (length xs) c.slots_of-slots.result) ≡ map (λ x. Some x) xs) c.as_slice.ensures
    c.slots_of-slots.ensures in
    subst (λ n. IsTrue (list_all (is_slot table) (take n c.slots_of-slots.result))) (sym c.len.ensures)
    (named-are_slots table (take (length ps) c.slots_of-slots.result) ps named)

pub invariant_of-self-2 : goal.invariant_of-self-2
invariant_of-self-2 c = grown-parts c.self.inside c.commit-added.new.self c.self.invariant c.commit-added.ensures.keeps c.commit-added.ensures.limits

pub returns-in_err-added-clause-arrives : goal.returns-in_err-added-clause-arrives
returns-in_err-added-clause-arrives c = λ site stands sound may_arrive.
    let here = subst (λ v. CoreStands v site) (sym c.self.view_is) stands in
    let core = seen c.self.inside in
    let table = core.store.table in
    let r = c.args.rec in
    let below = take c.len.result c.slots_of-slots.result in
    let told = subst (λ (xs : List StateId). map (id_at table) (take (length xs) c.slots_of-slots.result) ≡ map (λ x. Some x) xs) c.as_slice.ensures
    c.slots_of-slots.ensures in
    let named = subst (λ n. map (id_at table) (take n c.slots_of-slots.result) ≡ map (λ x. Some x) r.parents) (sym c.len.ensures) told in
    let may = fit-may-be-added core site r below here may_arrive named in
    let added = c.in_err-added.ensures.added site.dag site.collected r here.store refl refl may in
    stopped (CoreStands (record core { store = c.commit-added.new.self })) (unless site (growth_refusals site r) (with_record r site, Applied)) site
    (add_stop c.in_err-added.field-0.0) c.from_residual.result c.from_residual.ensures.1
    (growth-stops core site r c.commit-added.new.self here (with_record r site, Applied) c.in_err-added.field-0.0 added c.in_err-added.ensures.same.table)

pub returns-clause-arrives : goal.returns-clause-arrives
returns-clause-arrives c = λ site stands sound may_arrive.
    let here = subst (λ v. CoreStands v site) (sym c.self.view_is) stands in
    let core = seen c.self.inside in
    let table = core.store.table in
    let r = c.args.rec in
    let below = take c.len.result c.slots_of-slots.result in
    let told = subst (λ (xs : List StateId). map (id_at table) (take (length xs) c.slots_of-slots.result) ≡ map (λ x. Some x) xs) c.as_slice.ensures
    c.slots_of-slots.ensures in
    let named = subst (λ n. map (id_at table) (take n c.slots_of-slots.result) ≡ map (λ x. Some x) r.parents) (sym c.len.ensures) told in
    let may = fit-may-be-added core site r below here may_arrive named in
    let added = c.in_ok-added.ensures.added site.dag site.collected r here.store refl refl may in
    as-given (CoreStands (record core { store = c.commit-added.new.self })) (unless site (growth_refusals site r) (with_record r site, Applied))
    (with_record r site, Applied) Applied
    (growth-free core site r c.commit-added.new.self here (with_record r site, Applied) c.in_ok-added.field-0 added)
    (grown-site core site r c.commit-added.new.self here added.1 c.commit-added.ensures.keeps c.commit-added.ensures.limits, refl)
