use Rattle.std.proofs.Common.{◌∷◌, ◌∙◌, ap}
use Rattle.wire_item.specs.Readings.{id_front, u32_front}
use Rattle.text_words.specs.Words.{id_word, number_word}
use Rattle.text_words.specs.Puts.{putting, puts, spaced}
use Rattle.text_words.proofs.Putting.{puts-both}
use Rattle.shell_text.proofs.list_lines.put_pair.Goals as goal

pub returns : goal.returns
returns c =
    c.put_u32_behind.ensures ∙ ap (puts u32_front (λ n. 58 ∷ number_word n)) c.put_id.ensures
    ∙ puts-both id_front u32_front (λ x. spaced (id_word x)) (λ n. 58 ∷ number_word n) (putting c.args.unread.now c.args.out.now)
