use Rattle.std.proofs.Common.{◌≡◌, ℕ, List, ◌++◌, ◌∷◌, ◌∙◌, ap, append_assoc}
use Rattle.wire_item.specs.Fronts.{both}
use Rattle.wire_item.specs.Readings.{id_front, u32_front}
use Rattle.text_words.specs.Words.{id_word, number_word}
use Rattle.text_words.specs.Puts.{putting, puts, spaced}
use Rattle.text_words.proofs.Putting.{puts-both, puts-made, puts-same}
use Rattle.shell_text.specs.ReplyLines.{site_line_word}
use Rattle.shell_text.proofs.list_lines.put_site_line.Goals as goal

joined : (a b c : List ℕ) → (spaced a ++ 58 ∷ b) ++ 58 ∷ c ≡ spaced (a ++ 58 ∷ (b ++ 58 ∷ c))
joined a b c = ap (λ z. 32 ∷ z) (append_assoc a (58 ∷ b) (58 ∷ c))

pub returns : goal.returns
returns c =
    let s = putting c.args.unread.now c.args.out.now in
    c.put_u32_behind.ensures
    ∙ ap (puts u32_front (λ n. 58 ∷ number_word n))
    (c.put_id_behind.ensures ∙ ap (puts id_front (λ x. 58 ∷ id_word x)) c.put_u32.ensures
    ∙ puts-both u32_front id_front (λ n. spaced (number_word n)) (λ x. 58 ∷ id_word x) s)
    ∙ puts-both (both u32_front id_front) u32_front (λ p. spaced (number_word p.0) ++ 58 ∷ id_word p.1) (λ n. 58 ∷ number_word n) s
    ∙ puts-same (both (both u32_front id_front) u32_front) (λ p. (spaced (number_word p.0.0) ++ 58 ∷ id_word p.0.1) ++ 58 ∷ number_word p.1)
    (λ p. spaced (site_line_word (record { count = p.0.0; floor = p.0.1; number = p.1 }))) (λ p. joined (number_word p.0.0) (id_word p.0.1) (number_word p.1)) s
    ∙ puts-made (λ p. record { count = p.0.0; floor = p.0.1; number = p.1 }) (both (both u32_front id_front) u32_front) (λ l. spaced (site_line_word l)) s
