use Rattle.plain_dag.proofs.Paths.{fork-paths-tell, fork-paths-tell-collected, fork-paths-tell-all}
use Rattle.plain_dag.proofs.landings.fork_paths_tell_ancestry.Goals as goal

pub returns-clause-shared : goal.returns-clause-shared
returns-clause-shared c = fork-paths-tell

pub returns-clause-collected : goal.returns-clause-collected
returns-clause-collected c = fork-paths-tell-collected

pub returns-clause-uncollected : goal.returns-clause-uncollected
returns-clause-uncollected c = fork-paths-tell-all
