use Rattle.std.proofs.Common.{◌≡◌, ◌^◌, Bool, true, ◌&&◌, [], ◌++◌, ap, sym, ◌∙◌, arith, lt-ltb, codes}
use Rattle.std.proofs.lemmas.Bool.{and_left}
use Rattle.tardis_base.specs.Keys.{are_ascending_keys}
use Rattle.tardis_base.specs.Valid.{is_u32}
use Rattle.wire_item.specs.Fronts.{only_if, times}
use Rattle.wire_item.specs.Readings.{u16_front, key_front}
use Rattle.wire_talk.specs.Valid.{are_first_keys, is_first_of}
use Rattle.wire_talk.proofs.ReplyFields.{first_keys-tested}
use Rattle.text_words.specs.Words.{number_word, byte_word}
use Rattle.text_words.specs.Puts.{putting, puts, says, spaced, texts}
use Rattle.text_words.proofs.Putting.{says-puts}
use Rattle.text_words.proofs.Sequences.{counted-lost, counted-refused, counted-ordered}
use Rattle.shell_text.proofs.list_fields.put_first_keys.Goals as goal

first-and : (s t : Bool) → s ≡ true → (s && t) ≡ t
first-and s t e = ap (λ x. x && t) e

pub returns-in-None : goal.returns-in-None
returns-in-None c = counted-lost u16_front key_front (are_first_keys c.args.total)
    (texts (codes "keys" ++ spaced (number_word c.args.total)) (λ k. spaced (byte_word k))) c.args.unread.now c.u16.new.self c.args.out.now c.in-None.ensures

pub returns-then-is_first_of : goal.returns-then-is_first_of
returns-then-is_first_of c =
    let fits : is_u32 c.args.total ≡ true = lt-ltb c.args.total (2 ^ 32) (omega arith) in
    c.put_ascending_keys.ensures
    ∙ ap (puts (only_if are_ascending_keys (times key_front c.in-Some.count)) (texts [] (λ k. spaced (byte_word k))))
    (c.say_numbered.ensures ∙ ap (λ n. says (codes "keys" ++ spaced (number_word n)) (putting c.u16.new.self c.args.out.now)) c.from.ensures)
    ∙ says-puts (only_if are_ascending_keys (times key_front c.in-Some.count)) (texts [] (λ k. spaced (byte_word k)))
    (codes "keys" ++ spaced (number_word c.args.total)) (putting c.u16.new.self c.args.out.now)
    ∙ counted-ordered u16_front key_front (are_first_keys c.args.total) are_ascending_keys
    (texts (codes "keys" ++ spaced (number_word c.args.total)) (λ k. spaced (byte_word k))) c.args.unread.now c.in-Some.count c.u16.new.self
    c.args.out.now c.in-Some.ensures
    (λ mid xs rest e. first_keys-tested c.args.total fits c.in-Some.count mid xs rest e
    ∙ first-and (is_first_of c.args.total c.in-Some.count) (are_ascending_keys xs) (sym c.is_first_of.ensures ∙ c.if-is_first_of.true))

pub returns-else-is_first_of : goal.returns-else-is_first_of
returns-else-is_first_of c =
    let fits : is_u32 c.args.total ≡ true = lt-ltb c.args.total (2 ^ 32) (omega arith) in
    ap (λ o. putting o c.args.out.now) c.lose.ensures
    ∙ counted-refused u16_front key_front (are_first_keys c.args.total)
    (texts (codes "keys" ++ spaced (number_word c.args.total)) (λ k. spaced (byte_word k))) c.args.unread.now c.in-Some.count c.u16.new.self
    c.args.out.now c.in-Some.ensures
    (λ mid xs rest e. first_keys-tested c.args.total fits c.in-Some.count mid xs rest e
    ∙ and_left (is_first_of c.args.total c.in-Some.count) (are_ascending_keys xs) (sym c.is_first_of.ensures ∙ c.if-is_first_of.false))
