use Rattle.std.proofs.Common.{refl}
use Rattle.wire_item.specs.Fronts.{front_of_code}
use Rattle.wire_item.specs.Readings.{u8_front}
use Rattle.wire_item.proofs.Takings.{taken, untaken, makes-none}
use Rattle.wire_item.proofs.Codes.{code-none, code-read}
use Rattle.wire_talk.specs.RequestReadings.{request_front, request_rows}
use Rattle.wire_talk.proofs.RequestFields.{makes-at}
use Rattle.talk_bytes.proofs.RequestCodes.{code-is}
use Rattle.talk_bytes.proofs.request_readers.request.Goals as goal

pub returns-in_err-code-clause-read : goal.returns-in_err-code-clause-read
returns-in_err-code-clause-read c =
    let none = untaken u8_front c.args.reader.now c.u8.new.self c.in_err-code.ensures in
    makes-none request_front c.args.reader.now c.u8.new.self c.from_residual.result c.from_residual.ensures (code-none request_rows c.args.reader.now refl none)

pub returns-clause-read : goal.returns-clause-read
returns-clause-read c =
    let code = taken u8_front c.args.reader.now c.u8.new.self c.in_ok-code.code c.in_ok-code.ensures in
    makes-at request_front (front_of_code c.in_ok-code.code request_rows) c.args.reader.now c.u8.new.self c.fields.result c.fields.new.reader
    (code-read request_rows c.args.reader.now c.in_ok-code.code c.u8.new.self code) c.fields.ensures.read

pub returns-clause-sure : goal.returns-clause-sure
returns-clause-sure c = λ q e read sure is.
    let code = taken u8_front c.args.reader.now c.u8.new.self c.in_ok-code.code c.in_ok-code.ensures in
    c.fields.ensures.sure q e (code-is q c.args.reader.now c.in_ok-code.code c.u8.new.self read code) sure is
