use Rattle.std.proofs.Common.{◌++◌, length, ◌∙◌, ap, codes}
use Rattle.wire_item.specs.Fronts.{both}
use Rattle.wire_item.specs.Readings.{u64_front}
use Rattle.wire_talk.specs.ReplyReadings.{children_front, path_front}
use Rattle.text_words.specs.Words.{number_word, id_word}
use Rattle.text_words.specs.Puts.{putting, puts, spaced, texts}
use Rattle.text_words.proofs.Putting.{puts-both}
use Rattle.shell_text.specs.ReplyLines.{pair_word}
use Rattle.shell_text.proofs.reply_lines.put_shown.Goals as goal

pub returns : goal.returns
returns c =
    c.put_path.ensures
    ∙ ap (puts path_front (λ qs. texts (codes " path" ++ spaced (number_word (length qs))) (λ q. spaced (pair_word q)) qs))
    (c.put_children.ensures ∙ ap (puts children_front (λ xs. texts (codes " children" ++ spaced (number_word (length xs))) (λ x. spaced (id_word x)) xs))
    c.put_u64.ensures
    ∙ puts-both u64_front children_front (λ x. codes "shown" ++ spaced (number_word x))
    (λ xs. texts (codes " children" ++ spaced (number_word (length xs))) (λ x. spaced (id_word x)) xs) (putting c.args.unread.now c.args.out.now))
    ∙ puts-both (both u64_front children_front) path_front (λ p. (codes "shown" ++ spaced (number_word p.0))
    ++ texts (codes " children" ++ spaced (number_word (length p.1))) (λ x. spaced (id_word x)) p.1)
    (λ qs. texts (codes " path" ++ spaced (number_word (length qs))) (λ q. spaced (pair_word q)) qs) (putting c.args.unread.now c.args.out.now)
