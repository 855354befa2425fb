use Rattle.std.proofs.Common.{◌≡◌, ◌∙◌, List, Ok, Err, sym, ap, refl, subst}
use Rattle.std.specs.Prelude.{slice_get}
use Rattle.std.proofs.lemmas.Option.{same_Some}
use Rattle.tardis_base.specs.declared.records.Record.{Record}
use Rattle.tardis_base.specs.declared.replies.Reply.TheVariants.{Applied}
use Rattle.record_store.specs.Answers.{AddedIn, MayArrive}
use Rattle.plain_site.specs.Exchange.{settle_record, with_settled}
use Rattle.session_core.specs.Exchange.{MaySettle}
use Rattle.session_core.specs.Held.{seen}
use Rattle.session_core.specs.Stands.{CoreStands}
use Rattle.site_answers.specs.Stops.{add_stop}
use Rattle.session_core.proofs.Answers.{as-given, stopped}
use Rattle.session_core.proofs.Exchanging.{record-shape, at-valid, fit-arrives, growth-free, growth-stops, settled-site, settled-parts}
use Rattle.session_core.proofs.Parts.settle_at.Goals as goal

pub add_record-requires-clause-first : goal.add_record-requires-clause-first
add_record-requires-clause-first c = (record-shape c.at.result.now
    (at-valid c.args.place c.self.inside.waiting c.at.result.now c.self.invariant.room c.at.ensures)).0

pub add_record-requires-clause-few : goal.add_record-requires-clause-few
add_record-requires-clause-few c = (record-shape c.at.result.now
    (at-valid c.args.place c.self.inside.waiting c.at.result.now c.self.invariant.room c.at.ensures)).1

pub add_record-requires-clause-last : goal.add_record-requires-clause-last
add_record-requires-clause-last c = ((subst (λ v. MaySettle v c.args.place) (sym c.self.view_is) c.requires).addable c.at.result.now c.at.ensures).last

pub add_record-requires-clause-parents : goal.add_record-requires-clause-parents
add_record-requires-clause-parents c = ((subst (λ v. MaySettle v c.args.place) (sym c.self.view_is) c.requires).addable c.at.result.now c.at.ensures).parents

pub invariant_of-self-2 : goal.invariant_of-self-2
invariant_of-self-2 c = settled-parts c.self.inside c.args.place c.add_record.new.self c.take.new.self c.self.invariant c.add_record.ensures.keeps
    c.add_record.ensures.limits c.take.ensures.rest

pub returns-in_err-add_record : goal.returns-in_err-add_record
returns-in_err-add_record c = λ site stands sound r there fit.
    let here = subst (λ v. CoreStands v site) (sym c.self.view_is) stands in
    let core = seen c.self.inside in
    let place = c.args.place in
    let same : c.at.result.now ≡ r = same_Some c.at.result.now r (sym c.at.ensures ∙ ap (λ (room : List Record). slice_get room place) here.waiting ∙ there) in
    let valid = at-valid place core.waiting r c.self.invariant.room (ap (λ (room : List Record). slice_get room place) here.waiting ∙ there) in
    let arrives = fit-arrives site r sound valid fit in
    let may = subst (λ q. MayArrive core.store.table.limits.sites site.dag site.collected q) (sym same)
    (subst (λ l. MayArrive l.sites site.dag site.collected r) (sym here.limits) arrives) in
    let fault = c.in_err-add_record.field-0.0 in
    let added = subst (λ q. AddedIn core.store c.add_record.new.self site.dag site.collected q (Err fault)) same
    (c.in_err-add_record.ensures.added site.dag site.collected here.store may) in
    stopped (CoreStands (record core { store = c.add_record.new.self })) (settle_record site (place, r)) site (add_stop fault) c.from_residual.result
    c.from_residual.ensures.1
    (growth-stops core site r c.add_record.new.self here (with_settled (place, r) site, Applied) fault added c.in_err-add_record.ensures.same.table)

pub returns : goal.returns
returns c = λ site stands sound r there fit.
    let here = subst (λ v. CoreStands v site) (sym c.self.view_is) stands in
    let core = seen c.self.inside in
    let place = c.args.place in
    let same : c.at.result.now ≡ r = same_Some c.at.result.now r (sym c.at.ensures ∙ ap (λ (room : List Record). slice_get room place) here.waiting ∙ there) in
    let valid = at-valid place core.waiting r c.self.invariant.room (ap (λ (room : List Record). slice_get room place) here.waiting ∙ there) in
    let arrives = fit-arrives site r sound valid fit in
    let may = subst (λ q. MayArrive core.store.table.limits.sites site.dag site.collected q) (sym same)
    (subst (λ l. MayArrive l.sites site.dag site.collected r) (sym here.limits) arrives) in
    let slot = c.in_ok-add_record.field-0 in
    let added = subst (λ q. AddedIn core.store c.add_record.new.self site.dag site.collected q (Ok slot)) same
    (c.in_ok-add_record.ensures.added site.dag site.collected here.store may) in
    as-given (CoreStands (record core { store = c.add_record.new.self; waiting = c.take.new.self })) (settle_record site (place, r))
    (with_settled (place, r) site, Applied) Applied
    (growth-free core site r c.add_record.new.self here (with_settled (place, r) site, Applied) slot added) (
      settled-site core site r place c.add_record.new.self c.take.new.self here c.take.ensures.rest added.1 c.add_record.ensures.keeps
          c.add_record.ensures.limits,
      refl,
    )
