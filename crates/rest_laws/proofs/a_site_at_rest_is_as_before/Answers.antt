use Rattle.rest_laws.proofs.Rests.{rest-is-sound, rest-is-rest, site-is-shown-as-before, stat-is-as-before, reads-are-as-before}
use Rattle.rest_laws.proofs.Wrong.{kept-txns-break, raised-floors-break, lost-records-break, kept-sessions-break, lost-records-break-reads}
use Rattle.rest_laws.proofs.a_site_at_rest_is_as_before.Goals as goal

pub returns-clause-sound : goal.returns-clause-sound
returns-clause-sound c = rest-is-sound

pub returns-clause-once : goal.returns-clause-once
returns-clause-once c = rest-is-rest

pub returns-clause-shown : goal.returns-clause-shown
returns-clause-shown c = site-is-shown-as-before

pub returns-clause-stat : goal.returns-clause-stat
returns-clause-stat c = stat-is-as-before

pub returns-clause-reads : goal.returns-clause-reads
returns-clause-reads c = reads-are-as-before

pub returns-clause-txns_break : goal.returns-clause-txns_break
returns-clause-txns_break c = kept-txns-break

pub returns-clause-raised_breaks : goal.returns-clause-raised_breaks
returns-clause-raised_breaks c = raised-floors-break

pub returns-clause-lost_breaks : goal.returns-clause-lost_breaks
returns-clause-lost_breaks c = lost-records-break

pub returns-clause-sessions_break : goal.returns-clause-sessions_break
returns-clause-sessions_break c = kept-sessions-break

pub returns-clause-lost_breaks_reads : goal.returns-clause-lost_breaks_reads
returns-clause-lost_breaks_reads c = lost-records-break-reads
