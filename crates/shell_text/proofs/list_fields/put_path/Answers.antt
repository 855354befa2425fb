use Rattle.std.proofs.Common.{[], ◌++◌, length, ap, ◌∙◌, codes}
use Rattle.wire_item.specs.Fronts.{after, both, counted, times}
use Rattle.wire_item.specs.Readings.{u32_front, id_front}
use Rattle.wire_item.proofs.Takings.{made-none, after-none}
use Rattle.text_words.specs.Words.{number_word}
use Rattle.text_words.specs.Puts.{putting, puts, says, spaced, texts}
use Rattle.text_words.proofs.Sequences.{counted-put, next-none}
use Rattle.shell_text.specs.ReplyLines.{pair_word}
use Rattle.shell_text.proofs.LineTexts.{numbered}
use Rattle.shell_text.proofs.list_fields.put_path.Goals as goal

pub returns-in-None : goal.returns-in-None
returns-in-None c =
    next-none u32_front (counted u32_front (times (both id_front u32_front)))
    (λ xs. texts (codes " path" ++ spaced (number_word (length xs))) (λ p. spaced (pair_word p)) xs)
    (λ left e. made-none (λ read. read.1) (after u32_front (times (both id_front u32_front))) left
    (after-none u32_front (times (both id_front u32_front)) left e)) c.args.unread.now c.u32.new.self c.args.out.now c.in-None.ensures

pub returns : goal.returns
returns c =
    c.put_pairs.ensures
    ∙ ap (puts (times (both id_front u32_front) c.in-Some.count) (texts [] (λ p. spaced (pair_word p))))
    (c.say_numbered.ensures ∙ ap (λ n. says (codes " path" ++ spaced (number_word n)) (putting c.u32.new.self c.args.out.now)) c.from.ensures)
    ∙ numbered (both id_front u32_front) (λ p. spaced (pair_word p)) (codes " path") c.in-Some.count (putting c.u32.new.self c.args.out.now)
    ∙ counted-put u32_front (both id_front u32_front) (λ xs. texts (codes " path" ++ spaced (number_word (length xs))) (λ p. spaced (pair_word p)) xs)
    c.args.unread.now c.in-Some.count c.u32.new.self c.args.out.now c.in-Some.ensures
