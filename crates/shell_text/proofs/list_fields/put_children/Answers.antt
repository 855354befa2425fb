use Rattle.std.proofs.Common.{[], ◌++◌, length, ap, ◌∙◌, codes}
use Rattle.wire_item.specs.Fronts.{after, counted, times}
use Rattle.wire_item.specs.Readings.{u32_front, id_front}
use Rattle.wire_item.proofs.Takings.{made-none, after-none}
use Rattle.text_words.specs.Words.{number_word, id_word}
use Rattle.text_words.specs.Puts.{putting, puts, says, spaced, texts}
use Rattle.text_words.proofs.Sequences.{counted-put, next-none}
use Rattle.shell_text.proofs.LineTexts.{numbered}
use Rattle.shell_text.proofs.list_fields.put_children.Goals as goal

pub returns-in-None : goal.returns-in-None
returns-in-None c =
    next-none u32_front (counted u32_front (times id_front)) (λ xs. texts (codes " children" ++ spaced (number_word (length xs))) (λ x. spaced (id_word x)) xs)
    (λ left e. made-none (λ read. read.1) (after u32_front (times id_front)) left (after-none u32_front (times id_front) left e)) c.args.unread.now
    c.u32.new.self c.args.out.now c.in-None.ensures

pub returns : goal.returns
returns c =
    c.put_ids.ensures
    ∙ ap (puts (times id_front c.in-Some.count) (texts [] (λ x. spaced (id_word x))))
    (c.say_numbered.ensures ∙ ap (λ n. says (codes " children" ++ spaced (number_word n)) (putting c.u32.new.self c.args.out.now)) c.from.ensures)
    ∙ numbered id_front (λ x. spaced (id_word x)) (codes " children") c.in-Some.count (putting c.u32.new.self c.args.out.now)
    ∙ counted-put u32_front id_front (λ xs. texts (codes " children" ++ spaced (number_word (length xs))) (λ x. spaced (id_word x)) xs) c.args.unread.now
    c.in-Some.count c.u32.new.self c.args.out.now c.in-Some.ensures
