use Rattle.std.proofs.Common.{◌∙◌, ℕ, Option, subst}
use Rattle.std.specs.Option.{IfSome}
use Rattle.plain_site.specs.Exchange.{judgements, is_fit, settle, settle_record}
use Rattle.session_core.specs.Exchange.{MaySettle}
use Rattle.session_core.specs.Stands.{CoreStands}
use Rattle.session_core.proofs.Answers.{as-answer}
use Rattle.session_core.proofs.Exchanging.{fit-at, first-none, settled-at}
use Rattle.session_core.proofs.Parts.settle.Goals as goal

pub settle_at-requires : goal.settle_at-requires
settle_at-requires c = subst (λ (found : Option ℕ). IfSome found (MaySettle c.args.self.now)) c.in-Some.is c.in_ok-place.ensures.place

pub returns-in-Some : goal.returns-in-Some
returns-in-Some c = λ site stands sound.
    let place = c.in-Some.place in
    let at = fit-at (is_fit site) site.waiting place (c.in_ok-place.ensures.first site stands sound ∙ c.in-Some.is) in
    as-answer (CoreStands c.settle_at.new.self) (settle site) (settle_record site (place, at.value)) site c.settle_at.result
    (settled-at site (place, at.value) at.first) (c.settle_at.ensures site stands sound at.value at.there (first-none (judgements site at.value) at.fit))
