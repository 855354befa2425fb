use Rattle.std.proofs.Common.{None, refl, sym}
use Rattle.tardis_base.specs.Valid.{is_within}
use Rattle.wire_item.specs.Readings.{u8_front, id_front}
use Rattle.wire_item.proofs.Takings.{taken, untaken, makes-none}
use Rattle.wire_talk.proofs.ReplyFields.{counted-unfit, fit-makes}
use Rattle.plain_questions.specs.Valid.{are_asked}
use Rattle.plain_questions.specs.Readings.{asked_front}
use Rattle.wire_questions.proofs.Fields.{asked-tested}
use Rattle.wire_questions.proofs.question_field_readers.asked_states.Goals as goal

pub returns-in_err-count : goal.returns-in_err-count
returns-in_err-count c =
    let none = untaken u8_front c.args.reader.now c.u8.new.self c.in_err-count.ensures in
    makes-none asked_front c.args.reader.now c.u8.new.self c.from_residual.result c.from_residual.ensures (rw none refl)

pub returns-then-is_asked_count : goal.returns-then-is_asked_count
returns-then-is_asked_count c =
    let count = taken u8_front c.args.reader.now c.u8.new.self c.in_ok-count.count c.in_ok-count.ensures in
    fit-makes u8_front id_front are_asked (is_within 1 8) asked-tested c.args.reader.now c.in_ok-count.count c.u8.new.self c.ids.result c.ids.new.reader count
    (sym c.if-is_asked_count.ensures) c.ids.ensures

pub returns-else-is_asked_count : goal.returns-else-is_asked_count
returns-else-is_asked_count c =
    let count = taken u8_front c.args.reader.now c.u8.new.self c.in_ok-count.count c.in_ok-count.ensures in
    makes-none asked_front c.args.reader.now c.u8.new.self None refl
    (counted-unfit u8_front id_front are_asked (is_within 1 8) asked-tested c.args.reader.now c.in_ok-count.count c.u8.new.self count
    (sym c.if-is_asked_count.ensures))
