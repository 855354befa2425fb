use Rattle.tardis_base.specs.declared.replies.Reply.TheVariants.{Keys}
use Rattle.wire_item.specs.Fronts.{made, counted, only_if, times}
use Rattle.wire_item.specs.Readings.{u16_front, u32_front, key_front}
use Rattle.wire_item.proofs.Fronts.{made-read}
use Rattle.wire_item.proofs.Takings.{taken, untaken, making, unmade, makes, makes-none, made-none}
use Rattle.wire_talk.specs.ReplyReadings.{first_keys_front}
use Rattle.wire_talk.specs.Valid.{are_first_keys}
use Rattle.wire_talk.proofs.ReplyFields.{second-none, second-read}
use Rattle.std.proofs.Common.{refl}
use Rattle.talk_bytes.proofs.reply_field_readers.read_keys.Goals as goal

pub returns-in_err-total : goal.returns-in_err-total
returns-in_err-total c =
    let none = untaken u32_front c.args.reader.now c.u32.new.self c.in_err-total.ensures in
    makes-none (made (λ p. Keys p.0 p.1) first_keys_front) c.args.reader.now c.u32.new.self c.from_residual.result c.from_residual.ensures (rw (none) refl)

pub returns-in_err-first : goal.returns-in_err-first
returns-in_err-first c =
    let total = taken u32_front c.args.reader.now c.u32.new.self c.in_ok-total.total c.in_ok-total.ensures in
    let none = unmade (only_if (are_first_keys c.in_ok-total.total) (counted u16_front (times key_front))) c.u32.new.self c.first_keys.new.reader
    c.in_err-first.ensures in
    makes-none (made (λ p. Keys p.0 p.1) first_keys_front) c.args.reader.now c.first_keys.new.reader c.from_residual-in_err-first.result
    c.from_residual-in_err-first.ensures
    (made-none (λ p. Keys p.0 p.1) first_keys_front c.args.reader.now
    (second-none are_first_keys u32_front (counted u16_front (times key_front)) c.args.reader.now c.in_ok-total.total c.u32.new.self total none))

pub returns : goal.returns
returns c =
    let total = taken u32_front c.args.reader.now c.u32.new.self c.in_ok-total.total c.in_ok-total.ensures in
    let first = making (only_if (are_first_keys c.in_ok-total.total) (counted u16_front (times key_front))) c.u32.new.self c.first_keys.new.reader
    c.in_ok-first.first c.in_ok-first.ensures in
    makes (made (λ p. Keys p.0 p.1) first_keys_front) c.args.reader.now c.first_keys.new.reader c.keys_of.result (Keys c.in_ok-total.total first.0)
    (made-read (λ p. Keys p.0 p.1) first_keys_front c.args.reader.now (c.in_ok-total.total, first.0) c.first_keys.new.reader
    (second-read are_first_keys u32_front (counted u16_front (times key_front)) c.args.reader.now c.in_ok-total.total c.u32.new.self first.0
    c.first_keys.new.reader total first.1))
    (c.keys_of.ensures first.0 first.2)
