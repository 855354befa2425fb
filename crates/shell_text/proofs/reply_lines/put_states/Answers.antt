use Rattle.std.proofs.Common.{◌++◌, ◌∙◌, codes}
use Rattle.wire_item.specs.Fronts.{after, counted, only_if, times}
use Rattle.wire_item.specs.Readings.{u16_front, u32_front, id_front}
use Rattle.wire_talk.specs.ReplyReadings.{first_ids_front}
use Rattle.wire_talk.specs.Valid.{are_first_ids}
use Rattle.text_words.specs.Words.{number_word, id_word}
use Rattle.text_words.specs.Puts.{putting, spaced, texts}
use Rattle.text_words.proofs.Sequences.{puts-front-same}
use Rattle.shell_text.proofs.Arms.{next-then, next-then-lost}
use Rattle.shell_text.proofs.LineTexts.{tested-late}
use Rattle.shell_text.proofs.reply_lines.put_states.Goals as goal

pub returns-in-Some : goal.returns-in-Some
returns-in-Some c =
    c.put_first_ids.ensures
    ∙ next-then u32_front (λ total. only_if (are_first_ids total) (counted u16_front (times id_front)))
    (λ p. texts (codes "states" ++ spaced (number_word p.0)) (λ x. spaced (id_word x)) p.1) c.args.unread.now c.in-Some.total c.u32.new.self
    c.args.out.now c.in-Some.ensures
    ∙ puts-front-same (after u32_front (λ total. only_if (are_first_ids total) (counted u16_front (times id_front)))) first_ids_front
    (λ p. texts (codes "states" ++ spaced (number_word p.0)) (λ x. spaced (id_word x)) p.1)
    (tested-late are_first_ids u32_front (counted u16_front (times id_front))) (putting c.args.unread.now c.args.out.now)

pub returns-in-None : goal.returns-in-None
returns-in-None c =
    next-then-lost u32_front (λ total. only_if (are_first_ids total) (counted u16_front (times id_front)))
    (λ p. texts (codes "states" ++ spaced (number_word p.0)) (λ x. spaced (id_word x)) p.1) c.args.unread.now c.u32.new.self c.args.out.now
    c.in-None.ensures
    ∙ puts-front-same (after u32_front (λ total. only_if (are_first_ids total) (counted u16_front (times id_front)))) first_ids_front
    (λ p. texts (codes "states" ++ spaced (number_word p.0)) (λ x. spaced (id_word x)) p.1)
    (tested-late are_first_ids u32_front (counted u16_front (times id_front))) (putting c.args.unread.now c.args.out.now)
