use Rattle.rest_laws.proofs.Spelled.{lasting-has-one-spelling, all-have-one-spelling}
use Rattle.rest_laws.proofs.Valid.{lasting-is-short, what-lasts-is-spelled}
use Rattle.rest_laws.proofs.Wrong.{past-end-breaks}
use Rattle.rest_laws.proofs.what_lasts_has_one_spelling.Goals as goal

pub returns-clause-one : goal.returns-clause-one
returns-clause-one c = lasting-has-one-spelling

pub returns-clause-all : goal.returns-clause-all
returns-clause-all c = all-have-one-spelling

pub returns-clause-short : goal.returns-clause-short
returns-clause-short c = lasting-is-short c.spellings_have_their_lengths.ensures.record c.spellings_have_their_lengths.ensures.bound c.spellings_have_their_lengths.ensures.consent

pub returns-clause-spelled : goal.returns-clause-spelled
returns-clause-spelled c = what-lasts-is-spelled

pub returns-clause-past_end_breaks : goal.returns-clause-past_end_breaks
returns-clause-past_end_breaks c = past-end-breaks
