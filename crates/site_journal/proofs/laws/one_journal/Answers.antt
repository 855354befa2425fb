use Rattle.site_journal.proofs.Texts.{text_is_read}
use Rattle.site_journal.proofs.Readings.{one, every}
use Rattle.site_journal.proofs.laws.one_journal.Goals as goal

pub returns-clause-one : goal.returns-clause-one
returns-clause-one c = λ bytes entries others rest left p q. one bytes entries others rest left p q

pub returns-clause-some : goal.returns-clause-some
returns-clause-some c = λ bytes small. every bytes small

pub returns-clause-text : goal.returns-clause-text
returns-clause-text c = λ entries all. text_is_read entries all
