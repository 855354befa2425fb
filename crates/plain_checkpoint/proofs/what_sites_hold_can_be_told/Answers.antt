use Rattle.plain_checkpoint.proofs.Holding.{sound-sites-are-told-well, floors-of-sites-fit, arrivals-fit, collections-fit}
use Rattle.plain_checkpoint.proofs.Lines.{lines-are-states, lines-join}
use Rattle.plain_checkpoint.proofs.Wrong.{line-keeps-last-breaks, no-floors-break, no-arrivals-break, no-collections-break, one-taken-breaks}
use Rattle.plain_checkpoint.proofs.what_sites_hold_can_be_told.Goals as goal

pub returns-clause-well : goal.returns-clause-well
returns-clause-well c = sound-sites-are-told-well

pub returns-clause-floors : goal.returns-clause-floors
returns-clause-floors c = floors-of-sites-fit

pub returns-clause-arrivals : goal.returns-clause-arrivals
returns-clause-arrivals c = arrivals-fit

pub returns-clause-collections : goal.returns-clause-collections
returns-clause-collections c = collections-fit

pub returns-clause-lines : goal.returns-clause-lines
returns-clause-lines c = lines-are-states

pub returns-clause-joined : goal.returns-clause-joined
returns-clause-joined c = lines-join

pub returns-clause-no_floors_break : goal.returns-clause-no_floors_break
returns-clause-no_floors_break c = no-floors-break

pub returns-clause-no_arrivals_break : goal.returns-clause-no_arrivals_break
returns-clause-no_arrivals_break c = no-arrivals-break

pub returns-clause-no_collections_break : goal.returns-clause-no_collections_break
returns-clause-no_collections_break c = no-collections-break

pub returns-clause-kept_last_breaks : goal.returns-clause-kept_last_breaks
returns-clause-kept_last_breaks c = line-keeps-last-breaks

pub returns-clause-one_taken_breaks : goal.returns-clause-one_taken_breaks
returns-clause-one_taken_breaks c = one-taken-breaks
