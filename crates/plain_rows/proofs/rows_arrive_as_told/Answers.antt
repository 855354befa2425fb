use Rattle.plain_rows.proofs.Wrong.{two-rows-arrive, both-rows-fit, other-rows-dont, most-states-fit, empty-row-moves-floors}
use Rattle.plain_rows.proofs.rows_arrive_as_told.Goals as goal

pub returns-clause-two_rows : goal.returns-clause-two_rows
returns-clause-two_rows c = two-rows-arrive

pub returns-clause-both_fit : goal.returns-clause-both_fit
returns-clause-both_fit c = both-rows-fit

pub returns-clause-others : goal.returns-clause-others
returns-clause-others c = other-rows-dont

pub returns-clause-most : goal.returns-clause-most
returns-clause-most c = most-states-fit

pub returns-clause-empty : goal.returns-clause-empty
returns-clause-empty c = empty-row-moves-floors
