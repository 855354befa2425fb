use Rattle.rest_laws.proofs.Runs.{lives-are-one-run, commits-stay-told, commits-outlive-the-site}
use Rattle.rest_laws.proofs.Wrong.{kept-closed-breaks, forgotten-records-break}
use Rattle.rest_laws.proofs.lives_are_one_run.Goals as goal

pub returns-clause-run : goal.returns-clause-run
returns-clause-run c = lives-are-one-run

pub returns-clause-commits : goal.returns-clause-commits
returns-clause-commits c = commits-stay-told

pub returns-clause-closed_breaks : goal.returns-clause-closed_breaks
returns-clause-closed_breaks c = kept-closed-breaks

pub returns-clause-outlives : goal.returns-clause-outlives
returns-clause-outlives c = commits-outlive-the-site c.nothing_committed_is_lost.ensures.kept c.nothing_committed_is_lost.ensures.history

pub returns-clause-forgotten_breaks : goal.returns-clause-forgotten_breaks
returns-clause-forgotten_breaks c = forgotten-records-break
