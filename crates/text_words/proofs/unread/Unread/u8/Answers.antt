use Rattle.wire_item.specs.Readings.{u8_front}
use Rattle.text_words.proofs.Putting.{next-lost, next-read, found}
use Rattle.text_words.proofs.unread.Unread.u8.Goals as goal

pub returns-then-self : goal.returns-then-self
returns-then-self c = next-lost u8_front c.self.inside.is_lost c.self.inside.reader c.args.self.now c.self.view_is c.if-self.true

pub returns : goal.returns
returns c =
    next-read u8_front c.self.inside.reader c.args.self.now c.u8-taken.result c.u8-taken.new.self c.is_none-self-inside.result
    (found c.self.inside.is_lost c.self.inside.reader c.args.self.now c.self.view_is c.if-self.false) c.u8-taken.ensures c.is_none-self-inside.ensures
