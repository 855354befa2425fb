use Rattle.std.proofs.Common.{subst, ◌∙◌}
use Rattle.std.specs.Option.{option_copied}
use Rattle.wire_item.specs.Takings.{Takes}
use Rattle.wire_item.specs.Fronts.{bytes_front}
use Rattle.text_words.proofs.Putting.{next-lost, next-read, found, copied-some}
use Rattle.text_words.proofs.unread.Unread.counted_bytes.Goals as goal

pub returns-then-self : goal.returns-then-self
returns-then-self c = next-lost (bytes_front c.args.count) c.self.inside.is_lost c.self.inside.reader c.args.self.now c.self.view_is c.if-self.true

pub returns : goal.returns
returns c =
    next-read (bytes_front c.args.count) c.self.inside.reader c.args.self.now (option_copied c.bytes-taken.result) c.bytes-taken.new.self
    c.is_none-self-inside.result
    (found c.self.inside.is_lost c.self.inside.reader c.args.self.now c.self.view_is c.if-self.false)
    (subst (λ n. Takes (bytes_front n) c.self.inside.reader (option_copied c.bytes-taken.result) c.bytes-taken.new.self) c.from.ensures
    c.bytes-taken.ensures) (copied-some c.bytes-taken.result ∙ c.is_none-self-inside.ensures)
