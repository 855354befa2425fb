use Rattle.std.proofs.Common.{[], ◌++◌, length, ap, sym, ◌∙◌, codes}
use Rattle.wire_item.specs.Fronts.{times}
use Rattle.wire_item.specs.Readings.{u8_front}
use Rattle.wire_talk.specs.Valid.{are_site_lines}
use Rattle.wire_talk.specs.ReplyReadings.{site_line_front}
use Rattle.wire_talk.proofs.ReplyFields.{site_lines-tested}
use Rattle.text_words.specs.Words.{number_word}
use Rattle.text_words.specs.Puts.{putting, puts, says, spaced, texts}
use Rattle.text_words.proofs.Sequences.{counted-lost, counted-tested, counted-refused}
use Rattle.shell_text.specs.ReplyLines.{site_line_word}
use Rattle.shell_text.proofs.LineTexts.{numbered}
use Rattle.shell_text.proofs.list_fields.put_sites.Goals as goal

pub returns-in-None : goal.returns-in-None
returns-in-None c =
    counted-lost u8_front site_line_front are_site_lines (λ xs. texts (codes " sites" ++ spaced (number_word (length xs))) (λ l. spaced (site_line_word l)) xs)
    c.args.unread.now c.u8.new.self c.args.out.now c.in-None.ensures

pub returns-then-is_site_count : goal.returns-then-is_site_count
returns-then-is_site_count c =
    c.put_site_lines.ensures
    ∙ ap (puts (times site_line_front c.in-Some.count) (texts [] (λ l. spaced (site_line_word l))))
    (c.say_numbered.ensures ∙ ap (λ n. says (codes " sites" ++ spaced (number_word n)) (putting c.u8.new.self c.args.out.now)) c.from.ensures)
    ∙ numbered site_line_front (λ l. spaced (site_line_word l)) (codes " sites") c.in-Some.count (putting c.u8.new.self c.args.out.now)
    ∙ counted-tested u8_front site_line_front are_site_lines
    (λ xs. texts (codes " sites" ++ spaced (number_word (length xs))) (λ l. spaced (site_line_word l)) xs)
    c.args.unread.now c.in-Some.count c.u8.new.self c.args.out.now c.in-Some.ensures
    (λ mid xs rest e. site_lines-tested c.in-Some.count mid xs rest e ∙ sym c.is_site_count.ensures ∙ c.if-is_site_count.true)

pub returns-else-is_site_count : goal.returns-else-is_site_count
returns-else-is_site_count c =
    ap (λ o. putting o c.args.out.now) c.lose.ensures
    ∙ counted-refused u8_front site_line_front are_site_lines
    (λ xs. texts (codes " sites" ++ spaced (number_word (length xs))) (λ l. spaced (site_line_word l)) xs)
    c.args.unread.now c.in-Some.count c.u8.new.self c.args.out.now c.in-Some.ensures
    (λ mid xs rest e. site_lines-tested c.in-Some.count mid xs rest e ∙ sym c.is_site_count.ensures ∙ c.if-is_site_count.false)
