use Rattle.std.proofs.Common.{refl, None, Some, sym, ◌∙◌, ap, ◌≡◌}
use Rattle.tardis_base.specs.declared.requests.Request.TheVariants.{Conflicts}
use Rattle.wire_item.specs.Fronts.{made, bytes_front}
use Rattle.wire_item.specs.Readings.{u8_front}
use Rattle.wire_item.proofs.Fronts.{made-read}
use Rattle.wire_item.proofs.Takings.{taken, untaken, makes, makes-none, made-none}
use Rattle.wire_talk.specs.RequestReadings.{after_front}
use Rattle.wire_talk.proofs.RequestFields.{after-tested}
use Rattle.talk_bytes.proofs.request_field_readers.read_conflicts.Goals as goal

pub returns-in_err-count : goal.returns-in_err-count
returns-in_err-count c =
    let none = untaken u8_front c.args.reader.now c.u8.new.self c.in_err-count.ensures in
    makes-none (made Conflicts after_front) c.args.reader.now c.u8.new.self c.from_residual.result c.from_residual.ensures (rw none refl)

pub returns-in_err-after : goal.returns-in_err-after
returns-in_err-after c =
    let count = taken u8_front c.args.reader.now c.u8.new.self c.in_ok-count.count c.in_ok-count.ensures in
    let none = untaken (bytes_front c.from.result) c.u8.new.self c.bytes.new.self c.in_err-after.ensures in
    let same = ap (λ n. bytes_front n c.u8.new.self) (sym c.from.ensures) ∙ none in
    makes-none (made Conflicts after_front) c.args.reader.now c.bytes.new.self c.from_residual-in_err-after.result c.from_residual-in_err-after.ensures
    (rw (count, same) refl)

pub returns-then-is_after_length : goal.returns-then-is_after_length
returns-then-is_after_length c =
    let count = taken u8_front c.args.reader.now c.u8.new.self c.in_ok-count.count c.in_ok-count.ensures in
    let read = taken (bytes_front c.from.result) c.u8.new.self c.bytes.new.self c.in_ok-after.after.now c.in_ok-after.ensures in
    let same = ap (λ n. bytes_front n c.u8.new.self) (sym c.from.ensures) ∙ read in
    let valid = after-tested c.in_ok-count.count c.u8.new.self c.in_ok-after.after.now c.bytes.new.self same ∙ sym c.if-is_after_length.ensures in
    let whole : after_front c.args.reader.now ≡ Some (c.in_ok-after.after.now, c.bytes.new.self) = rw (count, same, valid) refl in
    makes (made Conflicts after_front) c.args.reader.now c.bytes.new.self c.conflicts.result (Conflicts c.in_ok-after.after.now)
    (made-read Conflicts after_front c.args.reader.now c.in_ok-after.after.now c.bytes.new.self whole) c.conflicts.ensures

pub returns-else-is_after_length : goal.returns-else-is_after_length
returns-else-is_after_length c =
    let count = taken u8_front c.args.reader.now c.u8.new.self c.in_ok-count.count c.in_ok-count.ensures in
    let read = taken (bytes_front c.from.result) c.u8.new.self c.bytes.new.self c.in_ok-after.after.now c.in_ok-after.ensures in
    let same = ap (λ n. bytes_front n c.u8.new.self) (sym c.from.ensures) ∙ read in
    let valid = after-tested c.in_ok-count.count c.u8.new.self c.in_ok-after.after.now c.bytes.new.self same ∙ sym c.if-is_after_length.ensures in
    let whole : after_front c.args.reader.now ≡ None = rw (count, same, valid) refl in
    makes-none (made Conflicts after_front) c.args.reader.now c.bytes.new.self None refl (made-none Conflicts after_front c.args.reader.now whole)
