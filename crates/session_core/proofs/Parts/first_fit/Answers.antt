use Rattle.std.proofs.Common.{◌≡◌, ◌∙◌, ◌+◌, ◌<◌, ℕ, List, Option, Some, None, length, take, suc, sym, ap, subst, arith}
use Rattle.std.proofs.lemmas.Option.{same_Some}
use Rattle.std.specs.Prelude.{slice_get}
use Rattle.std.specs.Option.{option_map}
use Rattle.tardis_base.specs.declared.records.Record.{Record}
use Rattle.site_exchange.specs.Judgements.{reply_of, IsAddable}
use Rattle.plain_site.specs.WaitingRoom.{first_fit}
use Rattle.plain_site.specs.Exchange.{is_fit}
use Rattle.session_core.specs.Core.{Core}
use Rattle.session_core.specs.Stands.{CoreStands}
use Rattle.session_core.proofs.Exchanging.{at-valid, fit-there, none-further, is-fit, judged-unfit}
use Rattle.session_core.proofs.Parts.first_fit.Goals as goal

pub judge-requires : goal.judge-requires
judge-requires c = at-valid c.loop-place.place c.self.inside.waiting c.at.result.now c.self.invariant.room c.at.ensures

pub returns-in-Fit-clause-place : goal.returns-in-Fit-clause-place
returns-in-Fit-clause-place c =
    let place = c.loop-place.place in
    let here = subst (λ (core : Core). slice_get core.waiting place ≡ Some c.at.result.now) c.self.view_is c.at.ensures in
    record {
      within = subst (λ (core : Core). place < length core.waiting) c.self.view_is (omega arith);
      addable = λ r there. subst (λ (x : Record). IsAddable c.args.self.now.store.table x) (same_Some c.at.result.now r (sym here ∙ there))
          (c.in_ok-judge.ensures.fit c.in-Fit.is);
    }

pub returns-in-Fit-clause-first : goal.returns-in-Fit-clause-first
returns-in-Fit-clause-first c = λ site stands sound.
    let here = subst (λ v. CoreStands v site) (sym c.self.view_is) stands in
    let place = c.loop-place.place in
    let r = c.at.result.now in
    let there = sym (ap (λ (room : List Record). slice_get room place) here.waiting) ∙ c.at.ensures in
    let fit = is-fit site r (sym (c.in_ok-judge.ensures.judged site stands sound) ∙ ap reply_of c.in-Fit.is) in
    ap (option_map (λ (found : ℕ × Record). found.0)) (fit-there (is_fit site) place site.waiting r (c.loop-place.invariant site stands sound) there fit)

pub loop-place-preserved : goal.loop-place-preserved
loop-place-preserved c = λ site stands sound.
    let here = subst (λ v. CoreStands v site) (sym c.self.view_is) stands in
    let place = c.loop-place.place in
    let next : suc place ≡ place + 1 = omega arith in
    let r = c.at.result.now in
    let there = sym (ap (λ (room : List Record). slice_get room place) here.waiting) ∙ c.at.ensures in
    let unfit = judged-unfit site r c.in_ok-judge.field-0 c.in_default.not-Fit (c.in_ok-judge.ensures.judged site stands sound) in
    subst (λ n. ◌≡◌ {A = Option (ℕ × Record)} (first_fit (is_fit site) (take n site.waiting)) None) next
    (none-further (is_fit site) place site.waiting r (c.loop-place.invariant site stands sound) there unfit)
