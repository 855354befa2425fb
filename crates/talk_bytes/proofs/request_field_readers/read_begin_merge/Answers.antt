use Rattle.std.proofs.Common.{refl, None, Some, ap, sym, ◌∙◌}
use Rattle.tardis_base.specs.declared.requests.Request.TheVariants.{BeginMerge}
use Rattle.wire_item.specs.Fronts.{made, counted, times}
use Rattle.wire_item.specs.Readings.{u8_front, id_front}
use Rattle.wire_item.proofs.Fronts.{made-read}
use Rattle.wire_item.proofs.Takings.{taken, untaken, making, unmade, makes, makes-none, made-none, makes-after}
use Rattle.wire_talk.specs.RequestReadings.{merge_of, merge_of_front}
use Rattle.talk_bytes.proofs.request_field_readers.read_begin_merge.Goals as goal

pub returns-in_err-count : goal.returns-in_err-count
returns-in_err-count c =
    let none = untaken u8_front c.args.reader.now c.u8.new.self c.in_err-count.ensures in
    makes-none (made BeginMerge merge_of_front) c.args.reader.now c.u8.new.self c.from_residual.result c.from_residual.ensures (rw none refl)

pub returns-in_err-states : goal.returns-in_err-states
returns-in_err-states c =
    let count = taken u8_front c.args.reader.now c.u8.new.self c.in_ok-count.count c.in_ok-count.ensures in
    let number = count ∙ ap (λ n. Some (n, c.u8.new.self)) (sym c.from.ensures) in
    let none = unmade (counted u8_front (times id_front)) c.args.reader.now c.ids.new.reader
    (makes-after u8_front id_front c.args.reader.now c.from.result c.u8.new.self None c.ids.new.reader number c.in_err-states.ensures) in
    makes-none (made BeginMerge merge_of_front) c.args.reader.now c.ids.new.reader c.from_residual-in_err-states.result c.from_residual-in_err-states.ensures
    (made-none BeginMerge merge_of_front c.args.reader.now (made-none merge_of (counted u8_front (times id_front)) c.args.reader.now none))

pub returns : goal.returns
returns c =
    let count = taken u8_front c.args.reader.now c.u8.new.self c.in_ok-count.count c.in_ok-count.ensures in
    let number = count ∙ ap (λ n. Some (n, c.u8.new.self)) (sym c.from.ensures) in
    let read = making (counted u8_front (times id_front)) c.args.reader.now c.ids.new.reader c.in_ok-states.states
    (makes-after u8_front id_front c.args.reader.now c.from.result c.u8.new.self (Some c.in_ok-states.states) c.ids.new.reader number c.in_ok-states.ensures) in
    makes (made BeginMerge merge_of_front) c.args.reader.now c.ids.new.reader c.begin_merge.result (BeginMerge (merge_of read.0))
    (made-read BeginMerge merge_of_front c.args.reader.now (merge_of read.0) c.ids.new.reader
    (made-read merge_of (counted u8_front (times id_front)) c.args.reader.now read.0 c.ids.new.reader read.1))
    (c.begin_merge.ensures read.0 read.2)
