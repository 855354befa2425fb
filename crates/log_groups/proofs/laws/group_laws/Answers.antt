use Rattle.log_groups.proofs.Parts.{same_entry}
use Rattle.log_groups.proofs.Readings.{one_log, every_log, log_is_read}
use Rattle.log_groups.proofs.Crashes.{log_grows, crash_is_torn, mend_keeps_log}
use Rattle.log_groups.proofs.laws.group_laws.Goals as goal

pub returns-clause-grows : goal.returns-clause-grows
returns-clause-grows c = log_grows

pub returns-clause-one : goal.returns-clause-one
returns-clause-one c = one_log c.log_laws.ensures.text (same_entry c.log_laws.ensures.one c.log_laws.ensures.some)

pub returns-clause-every : goal.returns-clause-every
returns-clause-every c = every_log c.log_laws.ensures.some (same_entry c.log_laws.ensures.one c.log_laws.ensures.some)

pub returns-clause-read : goal.returns-clause-read
returns-clause-read c = log_is_read c.log_laws.ensures.text

pub returns-clause-crash : goal.returns-clause-crash
returns-clause-crash c = crash_is_torn c.log_laws.ensures.some c.log_laws.ensures.group c.log_laws.ensures.torn

pub returns-clause-mend : goal.returns-clause-mend
returns-clause-mend c = mend_keeps_log c.log_laws.ensures.text c.log_laws.ensures.mend
