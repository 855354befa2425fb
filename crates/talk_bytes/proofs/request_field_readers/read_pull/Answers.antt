use Rattle.std.proofs.Common.{refl, None, sym, ◌∙◌}
use Rattle.tardis_base.specs.declared.requests.Request.TheVariants.{Pull}
use Rattle.tardis_base.specs.Valid.{is_within}
use Rattle.wire_item.specs.Fronts.{made, counted, times}
use Rattle.wire_item.specs.Readings.{u8_front, u32_front}
use Rattle.wire_item.proofs.Fronts.{made-read, only_if-read}
use Rattle.wire_item.proofs.Takings.{taken, untaken, making, unmade, makes, makes-none, made-none, makes-after, only_if-none}
use Rattle.wire_talk.specs.Valid.{are_counts}
use Rattle.wire_talk.specs.RequestReadings.{counts_front}
use Rattle.wire_talk.proofs.ReplyFields.{counted-unfit}
use Rattle.wire_talk.proofs.RequestFields.{counted-read, counts-tested}
use Rattle.talk_bytes.proofs.request_field_readers.read_pull.Goals as goal

pub returns-in_err-count : goal.returns-in_err-count
returns-in_err-count c =
    let none = untaken u8_front c.args.reader.now c.u8.new.self c.in_err-count.ensures in
    makes-none (made Pull counts_front) c.args.reader.now c.u8.new.self c.from_residual.result c.from_residual.ensures (rw none refl)

pub returns-in_err-counts : goal.returns-in_err-counts
returns-in_err-counts c =
    let count = taken u8_front c.args.reader.now c.u8.new.self c.in_ok-count.count c.in_ok-count.ensures in
    let none = unmade (counted u8_front (times u32_front)) c.args.reader.now c.numbers.new.reader
    (makes-after u8_front u32_front c.args.reader.now c.in_ok-count.count c.u8.new.self None c.numbers.new.reader count c.in_err-counts.ensures) in
    makes-none (made Pull counts_front) c.args.reader.now c.numbers.new.reader c.from_residual-in_err-counts.result c.from_residual-in_err-counts.ensures
    (made-none Pull counts_front c.args.reader.now (only_if-none are_counts (counted u8_front (times u32_front)) c.args.reader.now none))

pub returns-then-not-is_count_of_sites : goal.returns-then-not-is_count_of_sites
returns-then-not-is_count_of_sites c =
    let count = taken u8_front c.args.reader.now c.u8.new.self c.in_ok-count.count c.in_ok-count.ensures in
    makes-none (made Pull counts_front) c.args.reader.now c.u8.new.self None refl
    (made-none Pull counts_front c.args.reader.now
    (counted-unfit u8_front u32_front are_counts (is_within 1 16) counts-tested c.args.reader.now c.in_ok-count.count c.u8.new.self count
    (sym c.if-not-is_count_of_sites.ensures)))

pub returns : goal.returns
returns c =
    let count = taken u8_front c.args.reader.now c.u8.new.self c.in_ok-count.count c.in_ok-count.ensures in
    let each = making (times u32_front c.in_ok-count.count) c.u8.new.self c.numbers.new.reader c.in_ok-counts.counts c.in_ok-counts.ensures in
    let valid = counts-tested c.in_ok-count.count c.u8.new.self each.0 c.numbers.new.reader each.1 ∙ sym c.if-not-is_count_of_sites.ensures in
    let read = counted-read u8_front u32_front c.args.reader.now c.in_ok-count.count c.u8.new.self each.0 c.numbers.new.reader count each.1 in
    makes (made Pull counts_front) c.args.reader.now c.numbers.new.reader c.pull.result (Pull each.0)
    (made-read Pull counts_front c.args.reader.now each.0 c.numbers.new.reader
    (only_if-read are_counts (counted u8_front (times u32_front)) c.args.reader.now each.0 c.numbers.new.reader read valid))
    (c.pull.ensures each.0 each.2)
