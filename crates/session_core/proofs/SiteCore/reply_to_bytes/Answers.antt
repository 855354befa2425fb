use Rattle.std.proofs.Common.{◌≡◌, None, sym, subst}
use Rattle.tardis_base.specs.declared.replies.Refusal.TheVariants.{Malformed}
use Rattle.wire_talk.specs.Spellings.{reply_spelling}
use Rattle.plain_site.specs.Answers.{Answer, refused}
use Rattle.plain_site.specs.Step.{step_over_bytes}
use Rattle.site_answers.specs.Asks.{AsksFor}
use Rattle.session_core.specs.Machine.{GivesBytes, SiteStands}
use Rattle.session_core.proofs.Asking.{asked-sure}
use Rattle.session_core.proofs.SiteCore.reply_to_bytes.Goals as goal

pub returns-in-Some-clause-sure : goal.returns-in-Some-clause-sure
returns-in-Some-clause-sure c = λ sure.
    c.reply.ensures.sure (asked-sure c.args.request.now c.in-Some.request
    (subst (λ asked. AsksFor c.args.request.now asked) c.in-Some.is c.in_ok-request.ensures.asked).1 sure)

pub returns-in-Some-clause-given : goal.returns-in-Some-clause-given
returns-in-Some-clause-given c = λ site stands.
    let asks = subst (λ asked. AsksFor c.args.request.now asked) c.in-Some.is c.in_ok-request.ensures.asked in
    subst (λ (answer : Answer). GivesBytes (SiteStands c.reply.new.self) answer site c.reply.result c.reply.new.out) (sym (asks.2 site c.args.actor))
    (c.reply.ensures.given site stands)

pub returns-in-None-clause-given : goal.returns-in-None-clause-given
returns-in-None-clause-given c = λ site stands.
    let asks : AsksFor c.args.request.now None = subst (λ asked. AsksFor c.args.request.now asked) c.in-None.is c.in_ok-request.ensures.asked in
    let malformed : step_over_bytes site (c.args.actor, c.args.request.now) ≡ refused site Malformed = asks site c.args.actor in
    subst (λ (answer : Answer). SiteStands c.args.self.now answer.0 × (c.give_refused.new.out ≡ reply_spelling answer.1)) (sym malformed)
    (stands, c.give_refused.ensures)
