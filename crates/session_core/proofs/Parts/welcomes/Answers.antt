use Rattle.std.proofs.Common.{◌≡◌, ◌∙◌, Bool, Option, Result, ap, refl, sym, subst}
use Rattle.std.specs.Prelude.{is_none, IfOk}
use Rattle.tardis_base.specs.declared.faults.NoMemory.{NoMemory}
use Rattle.tardis_base.specs.declared.replies.Reply.{Reply}
use Rattle.plain_site.specs.Exchange.{judgements}
use Rattle.plain_site.specs.Rest.{nameless}
use Rattle.site_exchange.specs.Judgements.{reply_of, first_reply, IsAddable}
use Rattle.session_core.specs.Held.{seen}
use Rattle.session_core.specs.Stands.{CoreStands}
use Rattle.session_core.proofs.Exchanging.{record-shape, book-stands, past-six}
use Rattle.session_core.proofs.Resting.{unfit-unwelcome}
use Rattle.session_core.proofs.Parts.welcomes.Goals as goal
use Rattle.session_core.proofs.Parts.welcomes.Goals.{in-Fit, in_default}

pub judge_nameless-requires-clause-first : goal.judge_nameless-requires-clause-first
judge_nameless-requires-clause-first c = (record-shape c.args.rec.now c.requires).0

pub judge_nameless-requires-clause-few : goal.judge_nameless-requires-clause-few
judge_nameless-requires-clause-few c = (record-shape c.args.rec.now c.requires).1

pub has_fit_writes-requires-clause-few : goal.has_fit_writes-requires-clause-few
has_fit_writes-requires-clause-few c = (record-shape c.args.rec.now c.requires).1

pub has_fit_writes-requires-clause-listed : goal.has_fit_writes-requires-clause-listed
has_fit_writes-requires-clause-listed c = (subst (λ v. IsAddable v.store.table c.args.rec.now) c.self.view_is (c.in-Fit.ensures.fit refl)).parents

pub returns-clause-welcome : goal.returns-clause-welcome
returns-clause-welcome c = λ site both.
    let here = subst (λ v. CoreStands v site) (sym c.self.view_is) both.0 in
    let r = c.args.rec.now in
    let told = c.judge_nameless.ensures.judged site here.store (book-stands (seen c.self.inside) site here both.1) in
    elim c.match-judge_nameless.branch [
      | in-Fit w ↦
          subst (λ (res : Result Bool NoMemory). IfOk res (λ fit. fit ≡ is_none (first_reply (judgements (nameless site) r)))) (sym w.result-is)
          (subst (λ (o : Option Reply). IfOk w.has_fit_writes.result (λ fit. fit ≡ is_none o))
          (sym (past-six (nameless site) r (sym told ∙ ap reply_of w.in-Fit.is))) (w.has_fit_writes.ensures site both.0))
      | in_default w ↦
          subst (λ (res : Result Bool NoMemory). IfOk res (λ fit. fit ≡ is_none (first_reply (judgements (nameless site) r)))) (sym w.result-is)
          (unfit-unwelcome (nameless site) r c.judge_nameless.result w.in_default.not-Fit told)
    ]
