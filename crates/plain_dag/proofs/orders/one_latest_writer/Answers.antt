use Rattle.plain_dag.proofs.LatestWriter.{one-latest-writer}
use Rattle.plain_dag.proofs.orders.one_latest_writer.Goals as goal

pub returns : goal.returns
returns c = record { one = one-latest-writer }
