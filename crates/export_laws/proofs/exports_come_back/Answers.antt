use Rattle.export_laws.proofs.Laws.{carried-out, contents-come-back, exports-come-back, state-is-kept, few-states-are-kept, states-are-numbered}
use Rattle.export_laws.proofs.Short.{short-is-scripted}
use Rattle.export_laws.proofs.Wrong.{one-write-breaks, forgotten-breaks, forgotten-breaks-exports, all-collected-breaks, nothing-breaks}
use Rattle.export_laws.proofs.Wrong.{nothing-collected-breaks}
use Rattle.export_laws.proofs.exports_come_back.Goals as goal

pub returns-clause-carried_out : goal.returns-clause-carried_out
returns-clause-carried_out c = carried-out

pub returns-clause-contents : goal.returns-clause-contents
returns-clause-contents c = contents-come-back

pub returns-clause-exports : goal.returns-clause-exports
returns-clause-exports c = exports-come-back

pub returns-clause-kept : goal.returns-clause-kept
returns-clause-kept c = state-is-kept

pub returns-clause-numbered : goal.returns-clause-numbered
returns-clause-numbered c = states-are-numbered

pub returns-clause-one_write_breaks : goal.returns-clause-one_write_breaks
returns-clause-one_write_breaks c = one-write-breaks

pub returns-clause-forgotten_breaks : goal.returns-clause-forgotten_breaks
returns-clause-forgotten_breaks c = forgotten-breaks

pub returns-clause-forgotten_breaks_exports : goal.returns-clause-forgotten_breaks_exports
returns-clause-forgotten_breaks_exports c = forgotten-breaks-exports

pub returns-clause-all_collected_breaks : goal.returns-clause-all_collected_breaks
returns-clause-all_collected_breaks c = all-collected-breaks

pub returns-clause-nothing_breaks : goal.returns-clause-nothing_breaks
returns-clause-nothing_breaks c = nothing-breaks

pub returns-clause-short : goal.returns-clause-short
returns-clause-short c = short-is-scripted

pub returns-clause-few_kept : goal.returns-clause-few_kept
returns-clause-few_kept c = few-states-are-kept

pub returns-clause-nothing_collected_breaks : goal.returns-clause-nothing_collected_breaks
returns-clause-nothing_collected_breaks c = nothing-collected-breaks
