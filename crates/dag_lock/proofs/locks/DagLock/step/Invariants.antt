use Rattle.dag_lock.specs.Steps.{IsOfLock}
use Rattle.dag_lock.proofs.locks.DagLock.step.Given as goal

abbrev pub ghosts-take_turn : goal.ghosts-take_turn
ghosts-take_turn g a = record { is_of = IsOfLock g.M.Machine.opening g.M.Machine.plain a.words.now.key.machine.value }
