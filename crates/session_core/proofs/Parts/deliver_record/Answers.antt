use Rattle.std.proofs.Common.{◌∙◌, List, IsTrue, refl, sym, ap, subst}
use Rattle.std.specs.List.{list_all}
use Rattle.tardis_base.specs.declared.records.Record.{Record}
use Rattle.tardis_base.specs.declared.replies.Reply.TheVariants.{Applied, Known, Early}
use Rattle.tardis_base.specs.Valid.{is_record}
use Rattle.site_exchange.specs.Judgements.{reply_of}
use Rattle.plain_site.specs.Answers.{unless}
use Rattle.plain_site.specs.Commits.{with_record, growth_refusals}
use Rattle.plain_site.specs.Exchange.{deliver_record, with_held}
use Rattle.session_core.specs.Held.{seen}
use Rattle.session_core.specs.Stands.{CoreStands}
use Rattle.session_core.proofs.Answers.{as-given, as-answer}
use Rattle.session_core.proofs.Exchanging.{delivered-early, delivered-known, delivered-refused, delivered-fit, fit-arrives, early-held, room-held, held-valid}
use Rattle.session_core.proofs.Parts.deliver_record.Goals as goal

pub returns-in-Fit : goal.returns-in-Fit
returns-in-Fit c = λ site stands sound.
    let r = c.args.rec in
    let fit = sym (c.in_ok-judge.ensures.judged site stands sound) ∙ ap reply_of c.in-Fit.is in
    as-answer (CoreStands c.add.new.self) (deliver_record site r) (unless site (growth_refusals site r) (with_record r site, Applied)) site c.add.result
    (delivered-fit site r fit) (c.add.ensures.arrives site stands sound (fit-arrives site r sound c.requires fit))

pub invariant_of-self : goal.invariant_of-self
invariant_of-self c =
    room-held c.self.inside c.hold.new.self c.self.invariant
    (subst (λ (room : List Record). IsTrue (list_all is_record room)) (sym c.hold.ensures.held)
    (held-valid c.args.rec c.self.inside.waiting c.requires c.self.invariant.room))

pub returns-in-Known : goal.returns-in-Known
returns-in-Known c = λ site stands sound.
    let told = sym (c.in_ok-judge.ensures.judged site stands sound) ∙ ap reply_of c.in-Known.is in
    as-given (CoreStands c.args.self.now) (deliver_record site c.args.rec) (site, Known) Known (delivered-known site c.args.rec told) (stands, refl)

pub returns-in-Early : goal.returns-in-Early
returns-in-Early c = λ site stands sound.
    let here = subst (λ v. CoreStands v site) (sym c.self.view_is) stands in
    let core = seen c.self.inside in
    let r = c.args.rec in
    let have = c.in-Early.have in
    let told = sym (c.in_ok-judge.ensures.judged site stands sound) ∙ ap reply_of c.in-Early.is in
    as-given (CoreStands (record core { waiting = c.hold.new.self })) (deliver_record site r) (with_held r site, Early have) (Early have)
    (delivered-early site r have told)
    (early-held core site r c.hold.new.self here c.hold.ensures.held, refl)

pub returns-in-Refused : goal.returns-in-Refused
returns-in-Refused c = λ site stands sound.
    let told = sym (c.in_ok-judge.ensures.judged site stands sound) ∙ ap reply_of c.in-Refused.is in
    (stands, delivered-refused site c.args.rec c.in-Refused.refusal told)
