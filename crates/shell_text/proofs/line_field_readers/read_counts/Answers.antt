use Rattle.std.proofs.Common.{sym, ◌∙◌, ◌^◌}
use Rattle.tardis_base.specs.Valid.{is_within}
use Rattle.text_words.specs.Texts.{number_until}
use Rattle.wire_talk.specs.Valid.{are_counts}
use Rattle.shell_text.proofs.LineReads.{list-read, list-other, counts-tested}
use Rattle.shell_text.proofs.line_field_readers.read_counts.Goals as goal

pub returns-then-is_count_of_sites : goal.returns-then-is_count_of_sites
returns-then-is_count_of_sites c =
    list-read (number_until (2 ^ 32) 32) are_counts (λ n. is_within 1 16 n) counts-tested c.args.words.now c.count-count.result c.numbers.result
    c.count-count.ensures
    (sym c.is_count_of_sites.ensures ∙ c.if-is_count_of_sites.true) c.numbers.ensures

pub returns-else-is_count_of_sites : goal.returns-else-is_count_of_sites
returns-else-is_count_of_sites c =
    list-other (number_until (2 ^ 32) 32) are_counts (λ n. is_within 1 16 n) counts-tested c.args.words.now c.count-count.result c.count-count.ensures
    (sym c.is_count_of_sites.ensures ∙ c.if-is_count_of_sites.false)
