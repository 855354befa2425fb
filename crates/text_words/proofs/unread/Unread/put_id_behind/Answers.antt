use Rattle.std.proofs.Common.{None, Some, if◌then◌else◌, ap₂, sym, ◌∙◌, ap, ◌++◌, ◌∷◌, append_assoc}
use Rattle.wire_item.specs.Readings.{id_front}
use Rattle.wire_item.proofs.Takings.{taken, untaken}
use Rattle.text_words.specs.Words.{number_word, id_word}
use Rattle.text_words.specs.Puts.{putting, puts, says}
use Rattle.text_words.proofs.Putting.{puts-read, puts-lost, found, still, says-twice}
use Rattle.text_words.proofs.unread.Unread.put_id_behind.Goals as goal

pub returns-in-Some : goal.returns-in-Some
returns-in-Some c =
    let read = taken id_front c.self.inside.reader c.id.new.self c.in-Some.id c.in-Some.ensures in
    c.say_digits-in-Some.ensures
    ∙ ap (says (46 ∷ number_word c.from-in-Some.result)) c.say_digits.ensures
    ∙ says-twice (c.args.lead.now ++ number_word c.from.result) (46 ∷ number_word c.from-in-Some.result)
    (putting (if c.self.inside.is_lost then None else Some c.id.new.self) c.args.out.now)
    ∙ ap (λ z. says z (putting (if c.self.inside.is_lost then None else Some c.id.new.self) c.args.out.now))
    (append_assoc c.args.lead.now (number_word c.from.result) (46 ∷ number_word c.from-in-Some.result)
    ∙ ap₂ (λ m n. c.args.lead.now ++ (number_word m ++ 46 ∷ number_word n)) c.from.ensures c.from-in-Some.ensures)
    ∙ ap (λ o. says (c.args.lead.now ++ id_word c.in-Some.id) (putting o c.args.out.now)) (still c.self.inside.is_lost c.id.new.self c.if-self.false)
    ∙ puts-read id_front (λ x. c.args.lead.now ++ id_word x) c.self.inside.reader c.args.out.now c.in-Some.id c.id.new.self read
    ∙ ap (λ o. puts id_front (λ x. c.args.lead.now ++ id_word x) (putting o c.args.out.now))
    (sym (found c.self.inside.is_lost c.self.inside.reader c.args.self.now c.self.view_is c.if-self.false))

pub returns-in-None : goal.returns-in-None
returns-in-None c =
    puts-lost id_front (λ x. c.args.lead.now ++ id_word x) c.self.inside.reader c.args.out.now
    (untaken id_front c.self.inside.reader c.id.new.self c.in-None.ensures)
    ∙ ap (λ o. puts id_front (λ x. c.args.lead.now ++ id_word x) (putting o c.args.out.now))
    (sym (found c.self.inside.is_lost c.self.inside.reader c.args.self.now c.self.view_is c.if-self.false))
