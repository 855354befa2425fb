use Rattle.std.proofs.Common.{◌≡◌, refl, sym, subst}
use Rattle.std.specs.Prelude.{IfOk}
use Rattle.tardis_base.specs.declared.replies.Reply.TheVariants.{Known as IsKnown, Early as IsEarly, Refused as IsRefused}
use Rattle.site_exchange.specs.declared.judging.Judged.TheVariants.{Fit}
use Rattle.site_exchange.specs.Judgements.{reply_of, IsAddable}
use Rattle.session_core.specs.Held.{seen}
use Rattle.session_core.specs.Stands.{CoreStands}
use Rattle.session_core.proofs.Exchanging.{record-shape, book-stands, past-six, within-six, ok-all}
use Rattle.session_core.proofs.Parts.judge.Goals as goal

pub judge_record-requires-clause-first : goal.judge_record-requires-clause-first
judge_record-requires-clause-first c = (record-shape c.args.rec.now c.requires).0

pub judge_record-requires-clause-few : goal.judge_record-requires-clause-few
judge_record-requires-clause-few c = (record-shape c.args.rec.now c.requires).1

pub judge_writes-requires-clause-few : goal.judge_writes-requires-clause-few
judge_writes-requires-clause-few c = (record-shape c.args.rec.now c.requires).1

pub judge_writes-requires-clause-listed : goal.judge_writes-requires-clause-listed
judge_writes-requires-clause-listed c = (subst (λ v. IsAddable v.store.table c.args.rec.now) c.self.view_is (c.in-Fit.ensures.fit refl)).parents

pub returns-in-Fit-clause-judged : goal.returns-in-Fit-clause-judged
returns-in-Fit-clause-judged c = λ site stands sound.
    let here = subst (λ v. CoreStands v site) (sym c.self.view_is) stands in
    let r = c.args.rec.now in
    let first = sym (c.in-Fit.ensures.judged site here.store (book-stands (seen c.self.inside) site here sound)) in
    subst (λ o. IfOk c.judge_writes.result (λ judged. reply_of judged ≡ o)) (sym (past-six site r first)) (c.judge_writes.ensures site stands)

pub returns-in-Fit-clause-fit : goal.returns-in-Fit-clause-fit
returns-in-Fit-clause-fit c =
    ok-all (λ judged. judged ≡ Fit → IsAddable c.args.self.now.store.table c.args.rec.now) c.judge_writes.result
    (λ judged e. subst (λ v. IsAddable v.store.table c.args.rec.now) c.self.view_is (c.in-Fit.ensures.fit refl))

pub returns-in-Known-clause-judged : goal.returns-in-Known-clause-judged
returns-in-Known-clause-judged c = λ site stands sound.
    let here = subst (λ v. CoreStands v site) (sym c.self.view_is) stands in
    sym (within-six site c.args.rec.now IsKnown (sym (c.in-Known.ensures.judged site here.store (book-stands (seen c.self.inside) site here sound))))

pub returns-in-Early-clause-judged : goal.returns-in-Early-clause-judged
returns-in-Early-clause-judged c = λ site stands sound.
    let here = subst (λ v. CoreStands v site) (sym c.self.view_is) stands in
    sym (within-six site c.args.rec.now (IsEarly c.in-Early.have)
    (sym (c.in-Early.ensures.judged site here.store (book-stands (seen c.self.inside) site here sound))))

pub returns-in-Refused-clause-judged : goal.returns-in-Refused-clause-judged
returns-in-Refused-clause-judged c = λ site stands sound.
    let here = subst (λ v. CoreStands v site) (sym c.self.view_is) stands in
    sym (within-six site c.args.rec.now (IsRefused c.in-Refused.refusal)
    (sym (c.in-Refused.ensures.judged site here.store (book-stands (seen c.self.inside) site here sound))))
