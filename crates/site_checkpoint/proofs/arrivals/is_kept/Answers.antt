use Rattle.std.proofs.Common.{sym}
use Rattle.std.proofs.lemmas.Bool.{false≢true}
use Rattle.state_dag.proofs.Standing.{slot-is_kept}
use Rattle.record_store.proofs.Records.{named-is_listed}
use Rattle.site_checkpoint.proofs.arrivals.is_kept.Goals as goal

pub returns-in-Some-clause-kept : goal.returns-in-Some-clause-kept
returns-in-Some-clause-kept c = λ rs ks stands. sym (slot-is_kept c.args.dag.now rs ks stands c.in-Some.field-0 c.args.state c.in-Some.ensures.found)

pub returns-in-Some-clause-listed : goal.returns-in-Some-clause-listed
returns-in-Some-clause-listed c = λ _. named-is_listed c.args.dag.now c.in-Some.field-0 c.args.state c.in-Some.ensures.found

pub returns-in-None-clause-listed : goal.returns-in-None-clause-listed
returns-in-None-clause-listed c = λ is. absurd (false≢true is)
