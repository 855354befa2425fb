use Rattle.std.proofs.Common.{ltb, rules, arith}
use Rattle.std.proofs.lemmas.Bool.{ltb-true, ltb-false}
use Rattle.std.proofs.lemmas.List.Sorted.{IsPartitionPoint-from_clause, IsPartitionedBy-ltb}
use Rattle.state_dag.specs.Table.{arrival_at}
use Rattle.state_dag.specs.Nodes.{table_of}
use Rattle.state_dag.proofs.nodes.first_from.Goals as goal

pub returns-clause-before : goal.returns-clause-before
returns-clause-before c =
    let n = arrival_at (table_of c.args.nodes.now) in
    let point = IsPartitionPoint-from_clause (λ s. ltb (n s) c.args.arrival) _ _ c.partition_point.ensures.partitioned
    (IsPartitionedBy-ltb n _ c.args.arrival c.requires) (λ a r q k. search rules) in
    λ k d lt. ltb-true _ _ (point.0 k d (omega arith) lt)

pub returns-clause-from : goal.returns-clause-from
returns-clause-from c =
    let n = arrival_at (table_of c.args.nodes.now) in
    let point = IsPartitionPoint-from_clause (λ s. ltb (n s) c.args.arrival) _ _ c.partition_point.ensures.partitioned
    (IsPartitionedBy-ltb n _ c.args.arrival c.requires) (λ a r q k. search rules) in
    λ k d le lt. ltb-false _ _ (point.1 k d le lt)
