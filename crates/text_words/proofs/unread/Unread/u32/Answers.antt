use Rattle.wire_item.specs.Readings.{u32_front}
use Rattle.text_words.proofs.Putting.{next-lost, next-read, found}
use Rattle.text_words.proofs.unread.Unread.u32.Goals as goal

pub returns-then-self : goal.returns-then-self
returns-then-self c = next-lost u32_front c.self.inside.is_lost c.self.inside.reader c.args.self.now c.self.view_is c.if-self.true

pub returns : goal.returns
returns c =
    next-read u32_front c.self.inside.reader c.args.self.now c.u32-taken.result c.u32-taken.new.self c.is_none-self-inside.result
    (found c.self.inside.is_lost c.self.inside.reader c.args.self.now c.self.view_is c.if-self.false) c.u32-taken.ensures c.is_none-self-inside.ensures
