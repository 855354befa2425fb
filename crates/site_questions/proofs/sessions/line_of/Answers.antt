use Rattle.std.proofs.Common.{◌∙◌, [], ap}
use Rattle.std.specs.Option.{option_map_or}
use Rattle.tardis_base.specs.Ids.{same_id}
use Rattle.site_questions.specs.Txns.{states_of}
use Rattle.site_questions.proofs.Lines.{line-is, read-by}
use Rattle.site_questions.proofs.sessions.line_of.Goals as goal

pub returns : goal.returns
returns c = λ plain stands floor.
    line-is plain c.args.number c.args.session.now c.in_ok-states_read.field-0 c.is_same.result
    (c.in_ok-states_read.ensures ∙ (ap (λ o. option_map_or states_of o []) c.txn.ensures ∙ read-by c.args.site.now plain c.args.number stands))
    (c.is_same.ensures ∙ ap (same_id c.args.session.now.ceiling.state) floor)
