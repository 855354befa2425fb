use Rattle.std.proofs.Common.{None, refl, sym}
use Rattle.tardis_base.specs.Valid.{is_within}
use Rattle.wire_item.specs.Readings.{u8_front}
use Rattle.wire_item.proofs.Takings.{taken, untaken, takes-none}
use Rattle.wire_talk.specs.ReplyReadings.{site_line_front, site_lines_front}
use Rattle.wire_talk.specs.Valid.{are_site_lines}
use Rattle.wire_talk.proofs.ReplyFields.{site_lines-tested, counted-unfit, fit-takes}
use Rattle.talk_bytes.proofs.reply_field_readers.lines_of_sites.Goals as goal

pub returns-in_err-count : goal.returns-in_err-count
returns-in_err-count c =
    let none = untaken u8_front c.args.reader.now c.u8.new.self c.in_err-count.ensures in
    takes-none site_lines_front c.args.reader.now c.u8.new.self c.from_residual.result c.from_residual.ensures (rw (none) refl)

pub returns-then-is_count_of_sites : goal.returns-then-is_count_of_sites
returns-then-is_count_of_sites c =
    let count = taken u8_front c.args.reader.now c.u8.new.self c.in_ok-count.count c.in_ok-count.ensures in
    fit-takes u8_front site_line_front are_site_lines (is_within 1 16) site_lines-tested c.args.reader.now c.in_ok-count.count c.u8.new.self
    c.site_lines.result c.site_lines.new.reader
    count (sym c.if-is_count_of_sites.ensures) c.site_lines.ensures

pub returns-else-is_count_of_sites : goal.returns-else-is_count_of_sites
returns-else-is_count_of_sites c =
    let count = taken u8_front c.args.reader.now c.u8.new.self c.in_ok-count.count c.in_ok-count.ensures in
    takes-none site_lines_front c.args.reader.now c.u8.new.self None refl
    (counted-unfit u8_front site_line_front are_site_lines (is_within 1 16) site_lines-tested c.args.reader.now c.in_ok-count.count c.u8.new.self count
    (sym c.if-is_count_of_sites.ensures))
