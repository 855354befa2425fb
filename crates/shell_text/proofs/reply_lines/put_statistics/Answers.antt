use Rattle.std.proofs.Common.{◌++◌, length, ◌∙◌, ap, codes}
use Rattle.wire_item.specs.Fronts.{both}
use Rattle.wire_item.specs.Readings.{u16_front, u32_front, u64_front}
use Rattle.wire_talk.specs.ReplyReadings.{site_lines_front}
use Rattle.text_words.specs.Words.{number_word}
use Rattle.text_words.specs.Puts.{putting, puts, spaced, texts}
use Rattle.text_words.proofs.Putting.{puts-both}
use Rattle.shell_text.specs.ReplyLines.{site_line_word}
use Rattle.shell_text.proofs.reply_lines.put_statistics.Goals as goal

pub returns : goal.returns
returns c =
    c.put_sites.ensures
    ∙ ap (puts site_lines_front (λ ls. texts (codes " sites" ++ spaced (number_word (length ls))) (λ l. spaced (site_line_word l)) ls))
    (c.put_u16.ensures
    ∙ ap (puts u16_front (λ x. codes " sessions" ++ spaced (number_word x)))
    (c.put_u32-2.ensures
    ∙ ap (puts u32_front (λ x. codes " leaves" ++ spaced (number_word x)))
    (c.put_u32.ensures ∙ ap (puts u32_front (λ x. codes " kept" ++ spaced (number_word x))) c.put_u64.ensures
    ∙ puts-both u64_front u32_front (λ x. codes "stat known" ++ spaced (number_word x)) (λ x. codes " kept" ++ spaced (number_word x))
    (putting c.args.unread.now c.args.out.now))
    ∙ puts-both (both u64_front u32_front) u32_front (λ p. (codes "stat known" ++ spaced (number_word p.0)) ++ (codes " kept" ++ spaced (number_word p.1)))
    (λ x. codes " leaves" ++ spaced (number_word x)) (putting c.args.unread.now c.args.out.now))
    ∙ puts-both (both (both u64_front u32_front) u32_front) u16_front
    (λ p. ((codes "stat known" ++ spaced (number_word p.0.0)) ++ (codes " kept" ++ spaced (number_word p.0.1)))
    ++ (codes " leaves" ++ spaced (number_word p.1))) (λ x. codes " sessions" ++ spaced (number_word x)) (putting c.args.unread.now c.args.out.now))
    ∙ puts-both (both (both (both u64_front u32_front) u32_front) u16_front) site_lines_front
    (λ p. (((codes "stat known" ++ spaced (number_word p.0.0.0)) ++ (codes " kept" ++ spaced (number_word p.0.0.1)))
    ++ (codes " leaves" ++ spaced (number_word p.0.1))) ++ (codes " sessions" ++ spaced (number_word p.1)))
    (λ ls. texts (codes " sites" ++ spaced (number_word (length ls))) (λ l. spaced (site_line_word l)) ls)
    (putting c.args.unread.now c.args.out.now)
