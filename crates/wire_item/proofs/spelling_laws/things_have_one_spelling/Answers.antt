use Rattle.wire_item.proofs.Laws.{records, consents, items, batches}
use Rattle.wire_item.proofs.spelling_laws.things_have_one_spelling.Goals as goal

pub returns-clause-record : goal.returns-clause-record
returns-clause-record c = records

pub returns-clause-consent : goal.returns-clause-consent
returns-clause-consent c = consents

pub returns-clause-item : goal.returns-clause-item
returns-clause-item c = items

pub returns-clause-batch : goal.returns-clause-batch
returns-clause-batch c = batches
