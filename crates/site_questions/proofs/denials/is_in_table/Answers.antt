use Rattle.std.proofs.Common.{sym}
use Rattle.state_dag.proofs.Standing.{slot-is_kept}
use Rattle.site_questions.proofs.denials.is_in_table.Goals as goal

pub returns-in-Some : goal.returns-in-Some
returns-in-Some c = λ rs ks stands. sym (slot-is_kept c.args.dag.now rs ks stands c.in-Some.field-0 c.args.state c.in-Some.ensures.found)
