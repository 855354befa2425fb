use Rattle.rest_site.proofs.Joined.{by-rules, without-rules}
use Rattle.rest_site.proofs.joins.join_by_text.Goals as goal

pub returns-in-Ok-clause-joins : goal.returns-in-Ok-clause-joins
returns-in-Ok-clause-joins c =
    by-rules c.args.core.now c.join_leaves.new.core c.args.patience c.args.text.now c.in-Ok.rules c.join_leaves.result c.in-Ok.ensures.rules c.join_leaves.ensures.joins

pub returns-in-Err-Form-clause-joins : goal.returns-in-Err-Form-clause-joins
returns-in-Err-Form-clause-joins c = without-rules c.args.core.now c.args.patience c.args.text.now (c.in-Err-Form.ensures.form.0 cc)
