use Rattle.std.specs.Prelude.{option_map}
use Rattle.std.proofs.Common.{ap}
use Rattle.tardis_base.specs.declared.requests.Request.TheVariants.{Delete}
use Rattle.wire_item.specs.Fronts.{made}
use Rattle.wire_item.specs.Readings.{key_front}
use Rattle.wire_item.proofs.Fronts.{made-read}
use Rattle.wire_item.proofs.Takings.{taken, untaken, takes, takes-none, made-none}
use Rattle.talk_bytes.specs.Lent.{request_lent}
use Rattle.talk_bytes.proofs.lent_requests.read_delete.Goals as goal

pub returns-in_err-key : goal.returns-in_err-key
returns-in_err-key c =
    let none = untaken key_front c.args.reader.now c.key.new.self c.in_err-key.ensures in
    takes-none (made Delete key_front) c.args.reader.now c.key.new.self (option_map request_lent c.from_residual.result)
    (ap (option_map request_lent) c.from_residual.ensures)
    (made-none Delete key_front c.args.reader.now none)

pub returns : goal.returns
returns c =
    let key = taken key_front c.args.reader.now c.key.new.self c.in_ok-key.key.now c.in_ok-key.ensures in
    takes (made Delete key_front) c.args.reader.now c.key.new.self (Delete c.in_ok-key.key.now)
    (made-read Delete key_front c.args.reader.now c.in_ok-key.key.now c.key.new.self key)
