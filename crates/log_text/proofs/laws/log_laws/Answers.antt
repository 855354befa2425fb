use Rattle.std.proofs.Common.{length, arith}
use Rattle.log_text.proofs.Apart.{text_has_no_zero}
use Rattle.log_text.proofs.Readings.{one, read_within, text_is_read, all_is_read}
use Rattle.log_text.proofs.Crashes.{mixed_parts, crash_leaves_front, all_or_none, mend_keeps_items, zero_ends, torn_end_is_last}
use Rattle.log_text.proofs.laws.log_laws.Goals as goal

pub returns-clause-no_zero : goal.returns-clause-no_zero
returns-clause-no_zero c = text_has_no_zero

pub returns-clause-text : goal.returns-clause-text
returns-clause-text c = text_is_read

pub returns-clause-crash : goal.returns-clause-crash
returns-clause-crash c = λ items more found old zeros image rest a o z m r.
    let all = crash_leaves_front items more found old zeros image rest a o z m r in (all.0, all.1.0, all.1.1.0, all.1.1.1)

pub returns-clause-all : goal.returns-clause-all
returns-clause-all c = all_is_read

pub returns-clause-one : goal.returns-clause-one
returns-clause-one c = λ bytes items others rest left p q. one bytes items others rest left p.whole p.each p.ends q.whole q.each q.ends

pub returns-clause-some : goal.returns-clause-some
returns-clause-some c = λ bytes. read_within (length bytes) bytes (omega arith)

pub returns-clause-mend : goal.returns-clause-mend
returns-clause-mend c = mend_keeps_items

pub returns-clause-zero : goal.returns-clause-zero
returns-clause-zero c = zero_ends

pub returns-clause-torn : goal.returns-clause-torn
returns-clause-torn c = torn_end_is_last

pub returns-clause-parts : goal.returns-clause-parts
returns-clause-parts c = mixed_parts

pub returns-clause-group : goal.returns-clause-group
returns-clause-group c = all_or_none
