use Rattle.std.proofs.Common.{◌≡◌, ◌^◌, true, [], ◌++◌, ap, sym, ◌∙◌, arith, lt-ltb, codes}
use Rattle.tardis_base.specs.Valid.{is_u32}
use Rattle.wire_item.specs.Fronts.{times}
use Rattle.wire_item.specs.Readings.{u16_front, id_front}
use Rattle.wire_talk.specs.Valid.{are_first_ids}
use Rattle.wire_talk.proofs.ReplyFields.{first_ids-tested}
use Rattle.text_words.specs.Words.{number_word, id_word}
use Rattle.text_words.specs.Puts.{putting, puts, says, spaced, texts}
use Rattle.text_words.proofs.Putting.{says-puts}
use Rattle.text_words.proofs.Sequences.{counted-lost, counted-tested, counted-refused}
use Rattle.shell_text.proofs.list_fields.put_first_ids.Goals as goal

pub returns-in-None : goal.returns-in-None
returns-in-None c = counted-lost u16_front id_front (are_first_ids c.args.total)
    (texts (codes "states" ++ spaced (number_word c.args.total)) (λ x. spaced (id_word x))) c.args.unread.now c.u16.new.self c.args.out.now c.in-None.ensures

pub returns-then-is_first_of : goal.returns-then-is_first_of
returns-then-is_first_of c =
    let fits : is_u32 c.args.total ≡ true = lt-ltb c.args.total (2 ^ 32) (omega arith) in
    c.put_ids.ensures
    ∙ ap (λ n. puts (times id_front n) (texts [] (λ x. spaced (id_word x))) (putting c.say_numbered.new.unread c.say_numbered.new.out))
    c.from-then-is_first_of.ensures
    ∙ ap (puts (times id_front c.in-Some.count) (texts [] (λ x. spaced (id_word x))))
    (c.say_numbered.ensures ∙ ap (λ n. says (codes "states" ++ spaced (number_word n)) (putting c.u16.new.self c.args.out.now)) c.from.ensures)
    ∙ says-puts (times id_front c.in-Some.count) (texts [] (λ x. spaced (id_word x))) (codes "states" ++ spaced (number_word c.args.total))
    (putting c.u16.new.self c.args.out.now)
    ∙ counted-tested u16_front id_front (are_first_ids c.args.total)
    (texts (codes "states" ++ spaced (number_word c.args.total)) (λ x. spaced (id_word x))) c.args.unread.now c.in-Some.count c.u16.new.self
    c.args.out.now c.in-Some.ensures
    (λ mid xs rest e. first_ids-tested c.args.total fits c.in-Some.count mid xs rest e ∙ sym c.is_first_of.ensures ∙ c.if-is_first_of.true)

pub returns-else-is_first_of : goal.returns-else-is_first_of
returns-else-is_first_of c =
    let fits : is_u32 c.args.total ≡ true = lt-ltb c.args.total (2 ^ 32) (omega arith) in
    ap (λ o. putting o c.args.out.now) c.lose.ensures
    ∙ counted-refused u16_front id_front (are_first_ids c.args.total)
    (texts (codes "states" ++ spaced (number_word c.args.total)) (λ x. spaced (id_word x))) c.args.unread.now c.in-Some.count c.u16.new.self
    c.args.out.now c.in-Some.ensures
    (λ mid xs rest e. first_ids-tested c.args.total fits c.in-Some.count mid xs rest e ∙ sym c.is_first_of.ensures ∙ c.if-is_first_of.false)
