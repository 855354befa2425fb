use Rattle.site_peers.proofs.Worked.{exchange_is_made, exchange_is_seen, refused_is_made, refused_is_seen, peer_is_met, not_met_is_told, not_met_is_told_behind, greeting_late_is_told, long_introduction_is_told, no_batch_is_told, waits_a_while, late_is_told, late_again_is_not_told, full_goes_on_at_once, full_of_no_use_waits}
use Rattle.site_peers.proofs.laws.turns_are_as_worked.Goals as goal

pub returns-clause-made : goal.returns-clause-made
returns-clause-made c = exchange_is_made

pub returns-clause-seen : goal.returns-clause-seen
returns-clause-seen c = exchange_is_seen

pub returns-clause-no_batch : goal.returns-clause-no_batch
returns-clause-no_batch c = no_batch_is_told

pub returns-clause-waits : goal.returns-clause-waits
returns-clause-waits c = waits_a_while

pub returns-clause-late : goal.returns-clause-late
returns-clause-late c = late_is_told

pub returns-clause-late_again : goal.returns-clause-late_again
returns-clause-late_again c = late_again_is_not_told

pub returns-clause-full : goal.returns-clause-full
returns-clause-full c = full_goes_on_at_once

pub returns-clause-of_no_use : goal.returns-clause-of_no_use
returns-clause-of_no_use c = full_of_no_use_waits

pub returns-clause-met : goal.returns-clause-met
returns-clause-met c = peer_is_met

pub returns-clause-not_met : goal.returns-clause-not_met
returns-clause-not_met c = not_met_is_told

pub returns-clause-not_met_behind : goal.returns-clause-not_met_behind
returns-clause-not_met_behind c = not_met_is_told_behind

pub returns-clause-greeting_late : goal.returns-clause-greeting_late
returns-clause-greeting_late c = greeting_late_is_told

pub returns-clause-too_long : goal.returns-clause-too_long
returns-clause-too_long c = long_introduction_is_told

pub returns-clause-refused : goal.returns-clause-refused
returns-clause-refused c = refused_is_made

pub returns-clause-refused_seen : goal.returns-clause-refused_seen
returns-clause-refused_seen c = refused_is_seen
