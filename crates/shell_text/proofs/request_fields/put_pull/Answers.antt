use Rattle.std.proofs.Common.{◌∷◌, map, ◌∙◌, ap, sym, codes}
use Rattle.wire_item.specs.Fronts.{times}
use Rattle.wire_item.specs.Readings.{u8_front, u32_front}
use Rattle.wire_talk.specs.Valid.{are_counts}
use Rattle.wire_talk.proofs.RequestFields.{counts-tested}
use Rattle.text_words.specs.Words.{line, number_word}
use Rattle.text_words.specs.Puts.{putting, spaced, texts}
use Rattle.text_words.proofs.Sequences.{counted-lost, counted-tested, counted-refused, puts-read-same}
use Rattle.shell_text.proofs.LineTexts.{line-map}
use Rattle.shell_text.proofs.request_fields.put_pull.Goals as goal

pub returns-in-None : goal.returns-in-None
returns-in-None c = counted-lost u8_front u32_front are_counts (λ ns. spaced (line (codes "pull" ∷ map number_word ns))) c.args.unread.now c.u8.new.self
    c.args.out.now c.in-None.ensures

pub returns-then-is_site_count : goal.returns-then-is_site_count
returns-then-is_site_count c =
    c.put_numbers.ensures
    ∙ puts-read-same (times u32_front c.in-Some.count) (texts (codes " pull") (λ n. spaced (number_word n)))
    (λ ns. spaced (line (codes "pull" ∷ map number_word ns)))
    (λ left ns rest e. ap (λ z. 32 ∷ z) (line-map (λ n. number_word n) (codes "pull") ns)) (putting c.u8.new.self c.args.out.now)
    ∙ counted-tested u8_front u32_front are_counts (λ ns. spaced (line (codes "pull" ∷ map number_word ns))) c.args.unread.now c.in-Some.count
    c.u8.new.self c.args.out.now c.in-Some.ensures
    (λ mid xs rest e. counts-tested c.in-Some.count mid xs rest e ∙ sym c.is_site_count.ensures ∙ c.if-is_site_count.true)

pub returns-else-is_site_count : goal.returns-else-is_site_count
returns-else-is_site_count c =
    ap (λ o. putting o c.args.out.now) c.lose.ensures
    ∙ counted-refused u8_front u32_front are_counts (λ ns. spaced (line (codes "pull" ∷ map number_word ns))) c.args.unread.now c.in-Some.count
    c.u8.new.self c.args.out.now c.in-Some.ensures
    (λ mid xs rest e. counts-tested c.in-Some.count mid xs rest e ∙ sym c.is_site_count.ensures ∙ c.if-is_site_count.false)
