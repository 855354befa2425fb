use Rattle.std.proofs.Common.{refl}
use Rattle.client_laws.proofs.Rows.{followers-stay-below, readers-fork, writers-fork, reads-are-old, wanting-is-sent-again, weaker-is-sent-after}
use Rattle.client_laws.proofs.Rows.{commits-are-found, sides-are-joined}
use Rattle.client_laws.proofs.runs_are_told.Goals as goal

pub returns-clause-readers : goal.returns-clause-readers
returns-clause-readers c = readers-fork

pub returns-clause-writers : goal.returns-clause-writers
returns-clause-writers c = writers-fork

pub returns-clause-old_reads : goal.returns-clause-old_reads
returns-clause-old_reads c = reads-are-old

pub returns-clause-wanting : goal.returns-clause-wanting
returns-clause-wanting c = wanting-is-sent-again

pub returns-clause-weaker : goal.returns-clause-weaker
returns-clause-weaker c = weaker-is-sent-after

pub returns-clause-own_commits : goal.returns-clause-own_commits
returns-clause-own_commits c = commits-are-found

pub returns-clause-sides : goal.returns-clause-sides
returns-clause-sides c = sides-are-joined

pub returns-clause-told : goal.returns-clause-told
returns-clause-told c = (refl, refl)

pub returns-clause-followers : goal.returns-clause-followers
returns-clause-followers c = followers-stay-below
