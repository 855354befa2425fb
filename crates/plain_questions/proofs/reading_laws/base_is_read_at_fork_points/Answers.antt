use Rattle.plain_questions.proofs.Bases.{fork-points-are-kept, base-is-read-at-fork-points, merges-find-their-base}
use Rattle.plain_questions.proofs.Wrong.{side-reads-break, named-sides-break}
use Rattle.plain_questions.proofs.reading_laws.base_is_read_at_fork_points.Goals as goal

pub returns-clause-kept : goal.returns-clause-kept
returns-clause-kept c = fork-points-are-kept

pub returns-clause-reads : goal.returns-clause-reads
returns-clause-reads c = base-is-read-at-fork-points

pub returns-clause-merges : goal.returns-clause-merges
returns-clause-merges c = merges-find-their-base

pub returns-clause-side_breaks : goal.returns-clause-side_breaks
returns-clause-side_breaks c = side-reads-break

pub returns-clause-sides_break : goal.returns-clause-sides_break
returns-clause-sides_break c = named-sides-break
