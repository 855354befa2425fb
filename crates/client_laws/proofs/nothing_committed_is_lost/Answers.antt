use Rattle.client_laws.proofs.Ends.{deliveries-are-kept, settled-are-kept}
use Rattle.client_laws.proofs.Held.{history-is-told}
use Rattle.client_laws.proofs.Kept.{commits-are-kept, commits-are-shown, commits-join-what-they-read, other-keys-are-joined}
use Rattle.client_laws.proofs.Wrong.{forgotten-records-break-history, forgotten-deliveries-break, forgotten-waiting-breaks, forgotten-settled-break}
use Rattle.client_laws.proofs.Wrong.{forgotten-records-break, open-conflicts-break, dropped-sides-break, open-conflicts-break-joins}
use Rattle.client_laws.proofs.nothing_committed_is_lost.Goals as goal

pub returns-clause-kept : goal.returns-clause-kept
returns-clause-kept c = commits-are-kept

pub returns-clause-shown : goal.returns-clause-shown
returns-clause-shown c = commits-are-shown

pub returns-clause-joins : goal.returns-clause-joins
returns-clause-joins c = commits-join-what-they-read

pub returns-clause-others : goal.returns-clause-others
returns-clause-others c = other-keys-are-joined

pub returns-clause-forgotten_breaks : goal.returns-clause-forgotten_breaks
returns-clause-forgotten_breaks c = forgotten-records-break

pub returns-clause-conflicts_break : goal.returns-clause-conflicts_break
returns-clause-conflicts_break c = open-conflicts-break

pub returns-clause-dropped_breaks : goal.returns-clause-dropped_breaks
returns-clause-dropped_breaks c = dropped-sides-break

pub returns-clause-conflicts_break_others : goal.returns-clause-conflicts_break_others
returns-clause-conflicts_break_others c = open-conflicts-break-joins

pub returns-clause-deliveries : goal.returns-clause-deliveries
returns-clause-deliveries c = deliveries-are-kept

pub returns-clause-forgotten_breaks_deliveries : goal.returns-clause-forgotten_breaks_deliveries
returns-clause-forgotten_breaks_deliveries c = forgotten-deliveries-break

pub returns-clause-history : goal.returns-clause-history
returns-clause-history c = history-is-told

pub returns-clause-forgotten_breaks_history : goal.returns-clause-forgotten_breaks_history
returns-clause-forgotten_breaks_history c = forgotten-records-break-history

pub returns-clause-settled : goal.returns-clause-settled
returns-clause-settled c = settled-are-kept

pub returns-clause-forgotten_breaks_waiting : goal.returns-clause-forgotten_breaks_waiting
returns-clause-forgotten_breaks_waiting c = forgotten-waiting-breaks

pub returns-clause-forgotten_breaks_settled : goal.returns-clause-forgotten_breaks_settled
returns-clause-forgotten_breaks_settled c = forgotten-settled-break
