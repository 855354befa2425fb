use Rattle.wire_item.specs.Readings.{id_front}
use Rattle.text_words.proofs.Putting.{next-lost, next-read, found}
use Rattle.text_words.proofs.unread.Unread.id.Goals as goal

pub returns-then-self : goal.returns-then-self
returns-then-self c = next-lost id_front c.self.inside.is_lost c.self.inside.reader c.args.self.now c.self.view_is c.if-self.true

pub returns : goal.returns
returns c =
    next-read id_front c.self.inside.reader c.args.self.now c.id-taken.result c.id-taken.new.self c.is_none-self-inside.result
    (found c.self.inside.is_lost c.self.inside.reader c.args.self.now c.self.view_is c.if-self.false) c.id-taken.ensures c.is_none-self-inside.ensures
