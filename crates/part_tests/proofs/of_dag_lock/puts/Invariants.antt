use Rattle.dag_lock.specs.Steps.{Keeps}
use Rattle.part_tests.proofs.of_dag_lock.puts.Given as goal

abbrev pub invariant-loop-value : goal.invariant-loop-value
invariant-loop-value g l = Keeps l.fn.pass l.mine
