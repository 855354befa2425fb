use Rattle.plain_dag.proofs.ConflictKeys.{next-writes-conflicts}
use Rattle.plain_dag.proofs.orders.next_state_writes_conflicts.Goals as goal

pub returns : goal.returns
returns c = record { written = next-writes-conflicts }
