use Rattle.plain_dag.proofs.ConflictKeys.{lists-conflict-keys}
use Rattle.plain_dag.proofs.orders.conflict_keys_are_listed.Goals as goal

pub returns : goal.returns
returns c = record { listed = lists-conflict-keys }
