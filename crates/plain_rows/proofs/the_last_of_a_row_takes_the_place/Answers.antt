use Rattle.plain_rows.proofs.Places.{rows-take-the-place}
use Rattle.plain_rows.proofs.Fitting.{rows-raise-counts}
use Rattle.plain_rows.proofs.Wrong.{one-taken-breaks, empty-rows-move-floors, rows-change-no-more, rows-leave-rest, kept-last-breaks}
use Rattle.plain_rows.proofs.the_last_of_a_row_takes_the_place.Goals as goal

pub returns-clause-place : goal.returns-clause-place
returns-clause-place c = rows-take-the-place

pub returns-clause-empty : goal.returns-clause-empty
returns-clause-empty c = empty-rows-move-floors

pub returns-clause-counts : goal.returns-clause-counts
returns-clause-counts c = rows-raise-counts

pub returns-clause-no_more : goal.returns-clause-no_more
returns-clause-no_more c = rows-change-no-more

pub returns-clause-rest : goal.returns-clause-rest
returns-clause-rest c = rows-leave-rest

pub returns-clause-kept_last_breaks : goal.returns-clause-kept_last_breaks
returns-clause-kept_last_breaks c = kept-last-breaks

pub returns-clause-one_taken_breaks : goal.returns-clause-one_taken_breaks
returns-clause-one_taken_breaks c = one-taken-breaks
