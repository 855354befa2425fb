use Rattle.tardis_base.specs.declared.replies.Reply.TheVariants.{Value}
use Rattle.wire_item.specs.Fronts.{made, both}
use Rattle.wire_item.specs.Readings.{id_front, value_front}
use Rattle.wire_item.proofs.Fronts.{made-read}
use Rattle.wire_item.proofs.Takings.{taken, untaken, makes, makes-none, made-none, after-none, after-then_none, after-then}
use Rattle.talk_bytes.proofs.reply_field_readers.read_value.Goals as goal

pub returns-in_err-writer : goal.returns-in_err-writer
returns-in_err-writer c =
    let none = untaken id_front c.args.reader.now c.id.new.self c.in_err-writer.ensures in
    makes-none (made (λ p. Value p.0 p.1) (both id_front value_front)) c.args.reader.now c.id.new.self c.from_residual.result c.from_residual.ensures
    (made-none (λ p. Value p.0 p.1) (both id_front value_front) c.args.reader.now (after-none id_front (λ _. value_front) c.args.reader.now none))

pub returns-in_err-value : goal.returns-in_err-value
returns-in_err-value c =
    let writer = taken id_front c.args.reader.now c.id.new.self c.in_ok-writer.writer c.in_ok-writer.ensures in
    let none = untaken value_front c.id.new.self c.value.new.self c.in_err-value.ensures in
    makes-none (made (λ p. Value p.0 p.1) (both id_front value_front)) c.args.reader.now c.value.new.self c.from_residual-in_err-value.result
    c.from_residual-in_err-value.ensures
    (made-none (λ p. Value p.0 p.1) (both id_front value_front) c.args.reader.now
    (after-then_none id_front (λ _. value_front) c.args.reader.now c.in_ok-writer.writer c.id.new.self writer none))

pub returns : goal.returns
returns c =
    let writer = taken id_front c.args.reader.now c.id.new.self c.in_ok-writer.writer c.in_ok-writer.ensures in
    let value = taken value_front c.id.new.self c.value.new.self c.in_ok-value.value.now c.in_ok-value.ensures in
    makes (made (λ p. Value p.0 p.1) (both id_front value_front)) c.args.reader.now c.value.new.self c.value_of.result
    (Value c.in_ok-writer.writer c.in_ok-value.value.now)
    (made-read (λ p. Value p.0 p.1) (both id_front value_front) c.args.reader.now (c.in_ok-writer.writer, c.in_ok-value.value.now) c.value.new.self
    (after-then id_front (λ _. value_front) c.args.reader.now c.in_ok-writer.writer c.id.new.self c.in_ok-value.value.now c.value.new.self writer value))
    c.value_of.ensures
