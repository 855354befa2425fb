use Rattle.plain_rows.proofs.Joined.{rows-join}
use Rattle.plain_rows.proofs.Fitting.{joined-rows-fit, rows-of-others-fit, rows-fit-at-first}
use Rattle.plain_rows.proofs.Wrong.{none-let-in-breaks}
use Rattle.plain_rows.proofs.rows_of_one_site_join.Goals as goal

pub returns-clause-joined : goal.returns-clause-joined
returns-clause-joined c = rows-join

pub returns-clause-fit : goal.returns-clause-fit
returns-clause-fit c = joined-rows-fit

pub returns-clause-others_fit : goal.returns-clause-others_fit
returns-clause-others_fit c = rows-of-others-fit

pub returns-clause-at_first : goal.returns-clause-at_first
returns-clause-at_first c = rows-fit-at-first

pub returns-clause-none_let_in_breaks : goal.returns-clause-none_let_in_breaks
returns-clause-none_let_in_breaks c = none-let-in-breaks
