use Rattle.tardis_base.specs.declared.requests.Request.TheVariants.{Tidy}
use Rattle.wire_item.specs.Fronts.{made}
use Rattle.wire_item.specs.Readings.{u16_front}
use Rattle.wire_item.proofs.Fronts.{made-read}
use Rattle.wire_item.proofs.Takings.{taken, untaken, takes, takes-none, made-none}
use Rattle.talk_bytes.proofs.request_readers.read_tidy.Goals as goal

pub returns-in_err-n : goal.returns-in_err-n
returns-in_err-n c =
    takes-none (made Tidy u16_front) c.args.reader.now c.u16.new.self c.from_residual.result c.from_residual.ensures
    (made-none Tidy u16_front c.args.reader.now (untaken u16_front c.args.reader.now c.u16.new.self c.in_err-n.ensures))

pub returns : goal.returns
returns c =
    let read = taken u16_front c.args.reader.now c.u16.new.self c.in_ok-n.n c.in_ok-n.ensures in
    takes (made Tidy u16_front) c.args.reader.now c.u16.new.self (Tidy c.in_ok-n.n)
    (made-read Tidy u16_front c.args.reader.now c.in_ok-n.n c.u16.new.self read)
