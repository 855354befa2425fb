use Rattle.std.proofs.Common.{Some, sym, ◌∙◌, ap, ◌++◌}
use Rattle.wire_item.specs.Readings.{u32_front}
use Rattle.wire_item.proofs.Takings.{taken, untaken}
use Rattle.text_words.specs.Words.{number_word}
use Rattle.text_words.specs.Puts.{putting, puts, says}
use Rattle.text_words.proofs.Putting.{puts-read, puts-lost, found, still}
use Rattle.text_words.proofs.unread.Unread.put_u32_behind.Goals as goal

pub returns-in-Some : goal.returns-in-Some
returns-in-Some c =
    let read = taken u32_front c.self.inside.reader c.u32.new.self c.in-Some.number c.in-Some.ensures in
    c.say_digits.ensures
    ∙ ap (λ o. says (c.args.lead.now ++ number_word c.from.result) (putting o c.args.out.now)) (still c.self.inside.is_lost c.u32.new.self c.if-self.false)
    ∙ ap (λ n. says (c.args.lead.now ++ number_word n) (putting (Some c.u32.new.self) c.args.out.now)) c.from.ensures
    ∙ puts-read u32_front (λ n. c.args.lead.now ++ number_word n) c.self.inside.reader c.args.out.now c.in-Some.number c.u32.new.self read
    ∙ ap (λ o. puts u32_front (λ n. c.args.lead.now ++ number_word n) (putting o c.args.out.now))
    (sym (found c.self.inside.is_lost c.self.inside.reader c.args.self.now c.self.view_is c.if-self.false))

pub returns-in-None : goal.returns-in-None
returns-in-None c =
    puts-lost u32_front (λ x. c.args.lead.now ++ number_word x) c.self.inside.reader c.args.out.now
    (untaken u32_front c.self.inside.reader c.u32.new.self c.in-None.ensures)
    ∙ ap (λ o. puts u32_front (λ x. c.args.lead.now ++ number_word x) (putting o c.args.out.now))
    (sym (found c.self.inside.is_lost c.self.inside.reader c.args.self.now c.self.view_is c.if-self.false))
