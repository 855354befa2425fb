use Rattle.rest_laws.proofs.Fitting.{what-lasts-fits, what-fits-keeps-sound}
use Rattle.rest_laws.proofs.FittingTrails.{kept-fits}
use Rattle.rest_laws.proofs.Wrong.{settled-again-breaks, twice-breaks-fits}
use Rattle.rest_laws.proofs.what_lasted_may_be_taken_back.Goals as goal

pub returns-clause-fits : goal.returns-clause-fits
returns-clause-fits c = what-lasts-fits

pub returns-clause-kept : goal.returns-clause-kept
returns-clause-kept c = kept-fits c.talk_has_one_spelling.ensures.request

pub returns-clause-keeps : goal.returns-clause-keeps
returns-clause-keeps c = what-fits-keeps-sound

pub returns-clause-forgotten_breaks : goal.returns-clause-forgotten_breaks
returns-clause-forgotten_breaks c = settled-again-breaks

pub returns-clause-twice_breaks : goal.returns-clause-twice_breaks
returns-clause-twice_breaks c = twice-breaks-fits
