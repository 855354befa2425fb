use Rattle.std.proofs.Common.{sym, ◌∙◌, ap}
use Rattle.wire_item.specs.Readings.{value_front}
use Rattle.wire_item.proofs.Takings.{taken, untaken}
use Rattle.text_words.specs.Words.{byte_word}
use Rattle.text_words.specs.Puts.{putting, puts, says, spaced}
use Rattle.text_words.proofs.Putting.{puts-read, puts-lost, found, still}
use Rattle.text_words.proofs.unread.Unread.put_value.Goals as goal

pub returns-in-Some : goal.returns-in-Some
returns-in-Some c =
    let read = taken value_front c.self.inside.reader c.value.new.self c.in-Some.value.now c.in-Some.ensures in
    c.say_bytes.ensures
    ∙ ap (λ o. says (spaced (byte_word c.in-Some.value.now)) (putting o c.args.out.now)) (still c.self.inside.is_lost c.value.new.self c.if-self.false)
    ∙ puts-read value_front (λ x. spaced (byte_word x)) c.self.inside.reader c.args.out.now c.in-Some.value.now c.value.new.self read
    ∙ ap (λ o. puts value_front (λ x. spaced (byte_word x)) (putting o c.args.out.now))
    (sym (found c.self.inside.is_lost c.self.inside.reader c.args.self.now c.self.view_is c.if-self.false))

pub returns-in-None : goal.returns-in-None
returns-in-None c =
    puts-lost value_front (λ x. spaced (byte_word x)) c.self.inside.reader c.args.out.now
    (untaken value_front c.self.inside.reader c.value.new.self c.in-None.ensures)
    ∙ ap (λ o. puts value_front (λ x. spaced (byte_word x)) (putting o c.args.out.now))
    (sym (found c.self.inside.is_lost c.self.inside.reader c.args.self.now c.self.view_is c.if-self.false))
