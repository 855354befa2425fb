use Rattle.std.proofs.Common.{◌++◌, ◌∙◌, codes}
use Rattle.wire_item.specs.Fronts.{after, counted, only_if, times}
use Rattle.wire_item.specs.Readings.{u16_front, u32_front, key_front}
use Rattle.wire_talk.specs.ReplyReadings.{first_keys_front}
use Rattle.wire_talk.specs.Valid.{are_first_keys}
use Rattle.text_words.specs.Words.{number_word, byte_word}
use Rattle.text_words.specs.Puts.{putting, spaced, texts}
use Rattle.text_words.proofs.Sequences.{puts-front-same}
use Rattle.shell_text.proofs.Arms.{next-then, next-then-lost}
use Rattle.shell_text.proofs.LineTexts.{tested-late}
use Rattle.shell_text.proofs.reply_lines.put_keys.Goals as goal

pub returns-in-Some : goal.returns-in-Some
returns-in-Some c =
    c.put_first_keys.ensures
    ∙ next-then u32_front (λ total. only_if (are_first_keys total) (counted u16_front (times key_front)))
    (λ p. texts (codes "keys" ++ spaced (number_word p.0)) (λ k. spaced (byte_word k)) p.1) c.args.unread.now c.in-Some.total c.u32.new.self
    c.args.out.now c.in-Some.ensures
    ∙ puts-front-same (after u32_front (λ total. only_if (are_first_keys total) (counted u16_front (times key_front)))) first_keys_front
    (λ p. texts (codes "keys" ++ spaced (number_word p.0)) (λ k. spaced (byte_word k)) p.1)
    (tested-late are_first_keys u32_front (counted u16_front (times key_front))) (putting c.args.unread.now c.args.out.now)

pub returns-in-None : goal.returns-in-None
returns-in-None c =
    next-then-lost u32_front (λ total. only_if (are_first_keys total) (counted u16_front (times key_front)))
    (λ p. texts (codes "keys" ++ spaced (number_word p.0)) (λ k. spaced (byte_word k)) p.1) c.args.unread.now c.u32.new.self c.args.out.now
    c.in-None.ensures
    ∙ puts-front-same (after u32_front (λ total. only_if (are_first_keys total) (counted u16_front (times key_front)))) first_keys_front
    (λ p. texts (codes "keys" ++ spaced (number_word p.0)) (λ k. spaced (byte_word k)) p.1)
    (tested-late are_first_keys u32_front (counted u16_front (times key_front))) (putting c.args.unread.now c.args.out.now)
