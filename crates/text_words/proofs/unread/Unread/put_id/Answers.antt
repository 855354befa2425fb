use Rattle.std.proofs.Common.{sym, ◌∙◌, ap}
use Rattle.wire_item.specs.Readings.{id_front}
use Rattle.wire_item.proofs.Takings.{taken, untaken}
use Rattle.text_words.specs.Words.{id_word}
use Rattle.text_words.specs.Puts.{putting, puts, says, spaced}
use Rattle.text_words.proofs.Putting.{puts-read, puts-lost, found, still}
use Rattle.text_words.proofs.unread.Unread.put_id.Goals as goal

pub returns-in-Some : goal.returns-in-Some
returns-in-Some c =
    let read = taken id_front c.self.inside.reader c.id.new.self c.in-Some.id c.in-Some.ensures in
    c.say_id.ensures
    ∙ ap (λ o. says (spaced (id_word c.in-Some.id)) (putting o c.args.out.now)) (still c.self.inside.is_lost c.id.new.self c.if-self.false)
    ∙ puts-read id_front (λ x. spaced (id_word x)) c.self.inside.reader c.args.out.now c.in-Some.id c.id.new.self read
    ∙ ap (λ o. puts id_front (λ x. spaced (id_word x)) (putting o c.args.out.now))
    (sym (found c.self.inside.is_lost c.self.inside.reader c.args.self.now c.self.view_is c.if-self.false))

pub returns-in-None : goal.returns-in-None
returns-in-None c =
    puts-lost id_front (λ x. spaced (id_word x)) c.self.inside.reader c.args.out.now (untaken id_front c.self.inside.reader c.id.new.self c.in-None.ensures)
    ∙ ap (λ o. puts id_front (λ x. spaced (id_word x)) (putting o c.args.out.now))
    (sym (found c.self.inside.is_lost c.self.inside.reader c.args.self.now c.self.view_is c.if-self.false))
