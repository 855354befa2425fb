use Rattle.client_laws.proofs.Laws.{reads-one-snapshot, reads-at-its-state}
use Rattle.client_laws.proofs.OwnWrites.{own-writes-are-read, merges-show-each-side}
use Rattle.client_laws.proofs.Ends.{readers-end-where-they-read}
use Rattle.client_laws.proofs.Wrong.{newest-reads-break, newest-reads-break-state, forgotten-own-writes-break, newest-sides-break, moved-ends-break}
use Rattle.client_laws.proofs.transactions_read_one_snapshot.Goals as goal

pub returns-clause-snapshot : goal.returns-clause-snapshot
returns-clause-snapshot c = reads-one-snapshot

pub returns-clause-at_its_state : goal.returns-clause-at_its_state
returns-clause-at_its_state c = reads-at-its-state

pub returns-clause-own_writes : goal.returns-clause-own_writes
returns-clause-own_writes c = own-writes-are-read

pub returns-clause-each_side : goal.returns-clause-each_side
returns-clause-each_side c = merges-show-each-side

pub returns-clause-ends : goal.returns-clause-ends
returns-clause-ends c = readers-end-where-they-read

pub returns-clause-newest_breaks : goal.returns-clause-newest_breaks
returns-clause-newest_breaks c = newest-reads-break

pub returns-clause-newest_breaks_state : goal.returns-clause-newest_breaks_state
returns-clause-newest_breaks_state c = newest-reads-break-state

pub returns-clause-forgotten_breaks : goal.returns-clause-forgotten_breaks
returns-clause-forgotten_breaks c = forgotten-own-writes-break

pub returns-clause-newest_breaks_sides : goal.returns-clause-newest_breaks_sides
returns-clause-newest_breaks_sides c = newest-sides-break

pub returns-clause-moved_breaks : goal.returns-clause-moved_breaks
returns-clause-moved_breaks c = moved-ends-break
