use Rattle.std.specs.Prelude.{option_map}
use Rattle.std.proofs.Common.{ap}
use Rattle.tardis_base.specs.declared.requests.Request.TheVariants.{Put}
use Rattle.wire_item.specs.Fronts.{made, both}
use Rattle.wire_item.specs.Readings.{key_front, value_front}
use Rattle.wire_item.proofs.Fronts.{made-read}
use Rattle.wire_item.proofs.Takings.{taken, untaken, takes, takes-none, made-none, after-none, after-then_none, after-then}
use Rattle.talk_bytes.specs.Lent.{request_lent}
use Rattle.talk_bytes.proofs.lent_requests.read_put.Goals as goal

pub returns-in_err-key : goal.returns-in_err-key
returns-in_err-key c =
    let none = untaken key_front c.args.reader.now c.key.new.self c.in_err-key.ensures in
    takes-none (made (λ p. Put p.0 p.1) (both key_front value_front)) c.args.reader.now c.key.new.self (option_map request_lent c.from_residual.result)
    (ap (option_map request_lent) c.from_residual.ensures)
    (made-none (λ p. Put p.0 p.1) (both key_front value_front) c.args.reader.now (after-none key_front (λ _. value_front) c.args.reader.now none))

pub returns-in_err-value : goal.returns-in_err-value
returns-in_err-value c =
    let key = taken key_front c.args.reader.now c.key.new.self c.in_ok-key.key.now c.in_ok-key.ensures in
    let none = untaken value_front c.key.new.self c.value.new.self c.in_err-value.ensures in
    takes-none (made (λ p. Put p.0 p.1) (both key_front value_front)) c.args.reader.now c.value.new.self
    (option_map request_lent c.from_residual-in_err-value.result) (ap (option_map request_lent) c.from_residual-in_err-value.ensures)
    (made-none (λ p. Put p.0 p.1) (both key_front value_front) c.args.reader.now
    (after-then_none key_front (λ _. value_front) c.args.reader.now c.in_ok-key.key.now c.key.new.self key none))

pub returns : goal.returns
returns c =
    let key = taken key_front c.args.reader.now c.key.new.self c.in_ok-key.key.now c.in_ok-key.ensures in
    let value = taken value_front c.key.new.self c.value.new.self c.in_ok-value.value.now c.in_ok-value.ensures in
    takes (made (λ p. Put p.0 p.1) (both key_front value_front)) c.args.reader.now c.value.new.self (Put c.in_ok-key.key.now c.in_ok-value.value.now)
    (made-read (λ p. Put p.0 p.1) (both key_front value_front) c.args.reader.now (c.in_ok-key.key.now, c.in_ok-value.value.now) c.value.new.self
    (after-then key_front (λ _. value_front) c.args.reader.now c.in_ok-key.key.now c.key.new.self c.in_ok-value.value.now c.value.new.self key value))
