use Rattle.std.proofs.Common.{◌∙◌}
use Rattle.std.specs.Option.{option_copied}
use Rattle.wire_item.specs.Readings.{key_front}
use Rattle.text_words.proofs.Putting.{next-lost, next-read, found, copied-some}
use Rattle.text_words.proofs.unread.Unread.key.Goals as goal

pub returns-then-self : goal.returns-then-self
returns-then-self c = next-lost key_front c.self.inside.is_lost c.self.inside.reader c.args.self.now c.self.view_is c.if-self.true

pub returns : goal.returns
returns c =
    next-read key_front c.self.inside.reader c.args.self.now (option_copied c.key-taken.result) c.key-taken.new.self c.is_none-self-inside.result
    (found c.self.inside.is_lost c.self.inside.reader c.args.self.now c.self.view_is c.if-self.false) c.key-taken.ensures
    (copied-some c.key-taken.result ∙ c.is_none-self-inside.ensures)
