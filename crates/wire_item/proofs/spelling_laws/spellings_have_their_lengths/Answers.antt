use Rattle.wire_item.proofs.Lengths.{record-length, record-bound}
use Rattle.wire_item.proofs.spelling_laws.spellings_have_their_lengths.Goals as goal

pub returns-clause-record : goal.returns-clause-record
returns-clause-record c = record-length

pub returns-clause-bound : goal.returns-clause-bound
returns-clause-bound c = record-bound
