use Rattle.std.proofs.Common.{◌≡◌, ◌∙◌, sym, subst}
use Rattle.plain_site.specs.Site.{Site}
use Rattle.plain_site.specs.Step.{step}
use Rattle.talk_bytes.specs.Lent.{request_lent}
use Rattle.session_core.specs.Machine.{SiteStands, GivesBytes, opened_with}
use Rattle.session_core.proofs.Getting.{refusal-told, wrote-stands, wrote-opening, is-written, is-refused, is-short}
use Rattle.session_core.proofs.Telling.{small}
use Rattle.session_core.proofs.Asking.{lent-unsure}
use Rattle.session_core.proofs.SiteCore.reply_lent.Goals as goal
use Rattle.session_core.proofs.SiteCore.reply_lent.Goals.{in-Ok, in-Err-Refused, in-Err-NoMemory}

pub give_refused-requires-clause-valid : goal.give_refused-requires-clause-valid
give_refused-requires-clause-valid c =
    (refusal-told c.self.inside.parts c.args.actor (request_lent c.args.lent) c.requires.valid c.self.invariant c.serve_lent.new.self c.serve_lent.new.out
    c.in-Err-Refused.field-0 c.in-Err-Refused.refusal c.in-Err-Refused.field-0-is
    c.in-Err-Refused.ensures).valid

pub invariant_of-self : goal.invariant_of-self
invariant_of-self c =
    wrote-stands c.self.inside.parts c.args.actor (request_lent c.args.lent) c.requires.valid c.self.invariant c.serve_lent.new.self c.serve_lent.new.out
    (small c.args.actor c.ranges.actor.fits) c.serve_lent.result c.serve_lent.ensures

pub returns-clause-given : goal.returns-clause-given
returns-clause-given c =
    let n = c.args.actor in
    let q = request_lent c.args.lent in
    let old = c.self.inside.parts in
    let new = c.serve_lent.new.self in
    let out = c.serve_lent.new.out in
    let below = small n c.ranges.actor.fits in
    let after = c.match-serve_lent.out in
    subst (λ core. (site : Site) → SiteStands core site → GivesBytes (SiteStands new) (step site n q) site c.match-serve_lent.result after) c.self.view_is
    (elim c.match-serve_lent.branch [
      | in-Ok w ↦ λ site at.
          subst (λ r. GivesBytes (SiteStands new) (step site n q) site r after) (sym w.result-is)
          (is-written old new n q c.requires.valid below site at out w.in-Ok.field-0 after w.in-Ok.ensures w.out-is)
      | in-Err-Refused w ↦ λ site at.
          subst (λ r. GivesBytes (SiteStands new) (step site n q) site r after) (sym w.result-is)
          (is-refused old new n q c.requires.valid below site at out w.in-Err-Refused.field-0 w.in-Err-Refused.refusal after w.in-Err-Refused.field-0-is
          w.in-Err-Refused.ensures (w.out-is ∙ w.give_refused.ensures))
      | in-Err-NoMemory w ↦ λ site at.
          subst (λ r. GivesBytes (SiteStands new) (step site n q) site r after) (sym w.result-is)
          (is-short old new n q c.requires.valid below site at out w.in-Err-NoMemory.field-0 after w.in-Err-NoMemory.field-0-is w.in-Err-NoMemory.ensures
          w.out-is)
    ])

pub returns-clause-sure : goal.returns-clause-sure
returns-clause-sure c = λ sure. absurd (lent-unsure c.args.lent sure)

pub returns-clause-opening : goal.returns-clause-opening
returns-clause-opening c =
    subst (λ old. opened_with c.serve_lent.new.self ≡ opened_with old) c.self.view_is
    (wrote-opening c.self.inside.parts c.args.actor (request_lent c.args.lent) c.requires.valid c.self.invariant c.serve_lent.new.self c.serve_lent.new.out
    c.serve_lent.result c.serve_lent.ensures)
