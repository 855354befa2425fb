use Rattle.std.proofs.Common.{ℕ, Option, ap, subst, ◌∙◌}
use Rattle.tardis_base.specs.declared.records.Record.{Record}
use Rattle.session_core.specs.Machine.{SiteStands}
use Rattle.join_rules.specs.declared.join_codes.TheConstants.{JOIN}
use Rattle.join_rules.specs.Joins.{asked_to_join, with_joined}
use Rattle.rest_site.proofs.Joined.{has-code, asked, replied}
use Rattle.rest_site.proofs.joins.join.Goals as goal

pub unreachable-requires : goal.unreachable-requires
unreachable-requires c = absurd (has-code c.args.request.now c.requires.asks c.in_default.ensures.cases)

pub returns-in-Ok-clause-reply : goal.returns-in-Ok-clause-reply
returns-in-Ok-clause-reply c = λ s stands.
    let request = c.args.request.now in
    let is = asked s request c.in-Some.fields.now c.in-Some.field-0-0.now c.in-Some.ensures.cases.0 in
    replied c.clear.new.self c.push_byte.new.self c.push_byte-in-Ok.new.self JOIN c.in-Ok.end (asked_to_join s request).0 c.clear.ensures c.push_byte.ensures
    c.push_byte-in-Ok.ensures ((c.in-Ok.ensures.joins s stands).0 ∙ ap (λ (end : ℕ × Option Record). end.0) is)

pub returns-in-Ok-clause-step : goal.returns-in-Ok-clause-step
returns-in-Ok-clause-step c = λ s stands.
    subst (λ (end : ℕ × Option Record). SiteStands c.join_by.new.core (with_joined end.1 s))
    (asked s c.args.request.now c.in-Some.fields.now c.in-Some.field-0-0.now c.in-Some.ensures.cases.0) (c.in-Ok.ensures.joins s stands).1
