use Rattle.std.proofs.Common.{None, sym, ◌∙◌, refl}
use Rattle.tardis_base.specs.Ids.{are_ascending}
use Rattle.tardis_base.specs.Valid.{is_within, are_parents}
use Rattle.wire_item.specs.Fronts.{only_if, counted, times}
use Rattle.wire_item.specs.Readings.{u8_front, id_front, parents_front}
use Rattle.wire_item.proofs.Takings.{taken, untaken, making, unmade, makes-none, counted-unordered, counted-ordered}
use Rattle.wire_item.proofs.Orders.{parents-tested}
use Rattle.shell_text.proofs.Passings.{lacking, if-passes}
use Rattle.shell_text.proofs.passing.pass_parents.Goals as goal

pub returns-in-None : goal.returns-in-None
returns-in-None c =
    let none = untaken u8_front c.args.reader.now c.u8.new.self c.in-None.ensures in
    makes-none parents_front c.args.reader.now c.u8.new.self None refl (rw none refl)

pub returns-then-not-pass_ascending_ids : goal.returns-then-not-pass_ascending_ids
returns-then-not-pass_ascending_ids c =
    let n = c.in-Some.count in
    let count = taken u8_front c.args.reader.now c.u8.new.self n c.in-Some.ensures in
    let none = unmade (only_if are_ascending (times id_front n)) c.u8.new.self c.pass_ascending_ids.new.reader c.if-not-pass_ascending_ids.ensures in
    makes-none parents_front c.args.reader.now c.pass_ascending_ids.new.reader None refl
    (counted-unordered u8_front id_front are_parents are_ascending (is_within 1 8) parents-tested c.args.reader.now n c.u8.new.self count none)

pub returns : goal.returns
returns c =
    let n = c.in-Some.count in
    let count = taken u8_front c.args.reader.now c.u8.new.self n c.in-Some.ensures in
    let read = making (only_if are_ascending (times id_front n)) c.u8.new.self c.pass_ascending_ids.new.reader lacking c.if-not-pass_ascending_ids.ensures in
    let whole = counted-ordered u8_front id_front are_parents are_ascending (is_within 1 8) parents-tested c.args.reader.now n c.u8.new.self read.0
    c.pass_ascending_ids.new.reader count read.1 in
    if-passes are_parents (counted u8_front (times id_front)) c.args.reader.now c.pass_ascending_ids.new.reader read.0 c.is_parent_count.result whole.0
    (whole.1 ∙ sym c.is_parent_count.ensures)
