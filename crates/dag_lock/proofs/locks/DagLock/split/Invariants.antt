use Rattle.dag_lock.proofs.locks.DagLock.split.Given as goal

abbrev pub ghosts-cut : goal.ghosts-cut
ghosts-cut g a = record { give = a.give }
