use Rattle.plain_dag.proofs.Growth.{old-states-stay, old-reads-stay, new-state-is-below-parents}
use Rattle.plain_dag.proofs.orders.a_new_record_changes_nothing_old.Goals as goal

pub returns-clause-order : goal.returns-clause-order
returns-clause-order c = old-states-stay

pub returns-clause-reads : goal.returns-clause-reads
returns-clause-reads c = old-reads-stay

pub returns-clause-place : goal.returns-clause-place
returns-clause-place c = new-state-is-below-parents
