use Rattle.std.proofs.Common.{◌≡◌, Some, Result, Err}
use Rattle.tardis_base.specs.declared.faults.NoMemory.{NoMemory}
use Rattle.tardis_base.specs.declared.requests.Request.{Request}
use Rattle.wire_item.specs.Fronts.{front_of_code}
use Rattle.wire_item.proofs.Takings.{makes, makes-none}
use Rattle.wire_talk.specs.RequestReadings.{request_rows}
use Rattle.talk_bytes.specs.Lent.{request_lent}
use Rattle.talk_bytes.proofs.Lending.{behind-none, behind-some, within}
use Rattle.talk_bytes.proofs.RequestCodes.{takes-same}
use Rattle.talk_bytes.proofs.request_readers.read_owned.Goals as goal

pub returns-in_err-lent-clause-read : goal.returns-in_err-lent-clause-read
returns-in_err-lent-clause-read c =
    makes-none (front_of_code c.args.code request_rows) c.args.reader.now c.lent_fields.new.reader c.from_residual.result c.from_residual.ensures
    (behind-none c.args.code c.args.reader.now c.lent_fields.new.reader (within c.args.code c.requires.from c.requires.to) c.in_err-lent.ensures)

pub returns-clause-read : goal.returns-clause-read
returns-clause-read c =
    let lent = request_lent c.in_ok-lent.lent in
    makes (front_of_code c.args.code request_rows) c.args.reader.now c.lent_fields.new.reader c.owned.result lent
    (behind-some c.args.code c.args.reader.now lent c.lent_fields.new.reader c.in_ok-lent.ensures) c.owned.ensures.request

made-is : (made : Result Request NoMemory) (e : NoMemory) → Some made ≡ Some (Err e) → made ≡ Err e
made-is made e is = cc

pub returns-clause-sure : goal.returns-clause-sure
returns-clause-sure c = λ q e code free fault.
    let lent = request_lent c.in_ok-lent.lent in
    let read = behind-some c.args.code c.args.reader.now lent c.lent_fields.new.reader c.in_ok-lent.ensures in
    c.owned.ensures.sure e (takes-same q lent c.args.code c.args.reader.now c.lent_fields.new.reader code read free) (made-is c.owned.result e fault)
