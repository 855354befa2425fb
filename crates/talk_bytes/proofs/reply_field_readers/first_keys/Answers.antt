use Rattle.std.proofs.Common.{◌≡◌, true, None, refl, sym, arith, lt-ltb, ◌^◌}
use Rattle.tardis_base.specs.Keys.{are_ascending_keys}
use Rattle.tardis_base.specs.Valid.{is_u32}
use Rattle.wire_item.specs.Fronts.{counted, only_if, times}
use Rattle.wire_item.specs.Readings.{u16_front, key_front}
use Rattle.wire_item.proofs.Takings.{taken, untaken, makes-none, counted-fit, counted-unfit}
use Rattle.wire_talk.specs.Valid.{are_first_keys, is_first_of}
use Rattle.wire_talk.proofs.ReplyFields.{first_keys-tested}
use Rattle.talk_bytes.proofs.reply_field_readers.first_keys.Goals as goal

pub returns-in_err-count : goal.returns-in_err-count
returns-in_err-count c =
    let none = untaken u16_front c.args.reader.now c.u16.new.self c.in_err-count.ensures in
    makes-none (only_if (are_first_keys c.args.total) (counted u16_front (times key_front))) c.args.reader.now c.u16.new.self c.from_residual.result
    c.from_residual.ensures (rw (none) refl)

pub returns-then-is_first_of : goal.returns-then-is_first_of
returns-then-is_first_of c =
    let count = taken u16_front c.args.reader.now c.u16.new.self c.in_ok-count.count c.in_ok-count.ensures in
    let fits : is_u32 c.args.total ≡ true = lt-ltb c.args.total (2 ^ 32) (omega arith) in
    counted-fit u16_front key_front (are_first_keys c.args.total) are_ascending_keys (is_first_of c.args.total) (first_keys-tested c.args.total fits)
    c.args.reader.now c.in_ok-count.count c.u16.new.self c.keys.result c.keys.new.reader count (sym c.if-is_first_of.ensures) c.keys.ensures

pub returns-else-is_first_of : goal.returns-else-is_first_of
returns-else-is_first_of c =
    let count = taken u16_front c.args.reader.now c.u16.new.self c.in_ok-count.count c.in_ok-count.ensures in
    let fits : is_u32 c.args.total ≡ true = lt-ltb c.args.total (2 ^ 32) (omega arith) in
    makes-none (only_if (are_first_keys c.args.total) (counted u16_front (times key_front))) c.args.reader.now c.u16.new.self None refl
    (counted-unfit u16_front key_front (are_first_keys c.args.total) are_ascending_keys (is_first_of c.args.total) (first_keys-tested c.args.total fits)
    c.args.reader.now c.in_ok-count.count c.u16.new.self count (sym c.if-is_first_of.ensures))
