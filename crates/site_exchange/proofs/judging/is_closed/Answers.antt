use Rattle.std.proofs.Common.{sym}
use Rattle.std.proofs.lemmas.Bool.{false≢true}
use Rattle.record_store.proofs.Records.{named-is_listed}
use Rattle.site_exchange.proofs.judging.is_closed.Goals as goal

pub returns-in-Some-clause-listed : goal.returns-in-Some-clause-listed
returns-in-Some-clause-listed c = λ _. named-is_listed c.args.dag.now c.in-Some.slot c.args.state c.in-Some.ensures.found

pub returns-in-None-clause-listed : goal.returns-in-None-clause-listed
returns-in-None-clause-listed c = λ is. absurd (false≢true (sym is))
