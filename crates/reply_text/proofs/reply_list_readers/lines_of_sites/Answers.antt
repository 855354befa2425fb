use Rattle.std.proofs.Common.{sym, ◌∙◌}
use Rattle.reply_text.proofs.ReplyReads.{site-lines-read, site-lines-other}
use Rattle.reply_text.proofs.reply_list_readers.lines_of_sites.Goals as goal

pub returns-then-is_count_of_sites : goal.returns-then-is_count_of_sites
returns-then-is_count_of_sites c =
    c.site_lines.ensures ∙ sym (site-lines-read c.args.words.now c.in-Some.count c.in-Some.left (sym c.in-Some.ensures)
    (sym c.is_count_of_sites.ensures ∙ c.if-is_count_of_sites.true))

pub returns-else-is_count_of_sites : goal.returns-else-is_count_of_sites
returns-else-is_count_of_sites c =
    sym (site-lines-other c.args.words.now c.in-Some.count c.in-Some.left (sym c.in-Some.ensures)
    (sym c.is_count_of_sites.ensures ∙ c.if-is_count_of_sites.false))
