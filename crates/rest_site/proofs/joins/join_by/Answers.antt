use Rattle.rest_site.proofs.Joined.{by-fields}
use Rattle.rest_site.proofs.joins.join_by.Goals as goal

pub returns-in-Some-clause-joins : goal.returns-in-Some-clause-joins
returns-in-Some-clause-joins c =
    by-fields c.args.core.now c.join_by_text.new.core c.args.fields.now c.in-Some.text.now c.in-Some.patience.now c.join_by_text.result c.in-Some.ensures.cases.0
    c.join_by_text.ensures.joins
