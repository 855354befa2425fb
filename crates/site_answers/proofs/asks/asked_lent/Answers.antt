use Rattle.site_answers.proofs.Lending.{lent-asked}
use Rattle.site_answers.proofs.asks.asked_lent.Goals as goal

pub returns : goal.returns
returns c = lent-asked c.args.bytes.now c.read_lent.result c.talk_has_one_spelling.ensures.request c.read_lent.ensures.lent
