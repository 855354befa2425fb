use Rattle.plain_questions.proofs.Pages.{pages-tell-the-keys}
use Rattle.plain_questions.proofs.Once.{keys-are-told-once}
use Rattle.plain_questions.proofs.Wrong.{inclusive-pages-break, deleted-keys-break}
use Rattle.plain_questions.proofs.reading_laws.pages_tell_the_keys.Goals as goal

pub returns-clause-pages : goal.returns-clause-pages
returns-clause-pages c = pages-tell-the-keys

pub returns-clause-once : goal.returns-clause-once
returns-clause-once c = keys-are-told-once

pub returns-clause-inclusive_breaks : goal.returns-clause-inclusive_breaks
returns-clause-inclusive_breaks c = inclusive-pages-break

pub returns-clause-deleted_breaks : goal.returns-clause-deleted_breaks
returns-clause-deleted_breaks c = deleted-keys-break
