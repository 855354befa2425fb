use Rattle.std.proofs.Common.{refl, None, ◌∙◌, ap, arith}
use Rattle.tardis_base.specs.declared.requests.Begin.TheVariants.{Any, Ancestor, Parent, At}
use Rattle.wire_item.specs.Fronts.{front_of_code}
use Rattle.wire_item.specs.Readings.{u8_front, id_front}
use Rattle.wire_item.proofs.Fronts.{made-read}
use Rattle.wire_item.proofs.Takings.{taken, untaken, takes, takes-none, made-none}
use Rattle.wire_item.proofs.Codes.{code-none, code-read}
use Rattle.wire_talk.specs.RequestReadings.{begin_rows, begin_front}
use Rattle.wire_talk.proofs.RequestFields.{rows-other}
use Rattle.talk_bytes.proofs.lent_requests.begin.Goals as goal

pub returns-in_err-u8 : goal.returns-in_err-u8
returns-in_err-u8 c =
    let none = untaken u8_front c.args.reader.now c.u8.new.self c.in_err-u8.ensures in
    takes-none begin_front c.args.reader.now c.u8.new.self c.from_residual.result c.from_residual.ensures (code-none begin_rows c.args.reader.now refl none)

pub returns-in-0 : goal.returns-in-0
returns-in-0 c =
    let code = taken u8_front c.args.reader.now c.u8.new.self c.in_ok-u8.field-0 c.in_ok-u8.ensures in
    takes begin_front c.args.reader.now c.u8.new.self Any
    (code-read begin_rows c.args.reader.now c.in_ok-u8.field-0 c.u8.new.self code ∙ ap (λ k. front_of_code k begin_rows c.u8.new.self) c.in-0.is)

pub returns-in-1 : goal.returns-in-1
returns-in-1 c =
    let code = taken u8_front c.args.reader.now c.u8.new.self c.in_ok-u8.field-0 c.in_ok-u8.ensures in
    takes begin_front c.args.reader.now c.u8.new.self Ancestor
    (code-read begin_rows c.args.reader.now c.in_ok-u8.field-0 c.u8.new.self code ∙ ap (λ k. front_of_code k begin_rows c.u8.new.self) c.in-1.is)

pub returns-in-2 : goal.returns-in-2
returns-in-2 c =
    let code = taken u8_front c.args.reader.now c.u8.new.self c.in_ok-u8.field-0 c.in_ok-u8.ensures in
    takes begin_front c.args.reader.now c.u8.new.self Parent
    (code-read begin_rows c.args.reader.now c.in_ok-u8.field-0 c.u8.new.self code ∙ ap (λ k. front_of_code k begin_rows c.u8.new.self) c.in-2.is)

pub returns-in_err-id-in-3 : goal.returns-in_err-id-in-3
returns-in_err-id-in-3 c =
    let code = taken u8_front c.args.reader.now c.u8.new.self c.in_ok-u8.field-0 c.in_ok-u8.ensures in
    let none = untaken id_front c.u8.new.self c.id.new.self c.in_err-id-in-3.ensures in
    takes-none begin_front c.args.reader.now c.id.new.self c.from_residual-in_err-id-in-3.result c.from_residual-in_err-id-in-3.ensures
    (code-read begin_rows c.args.reader.now c.in_ok-u8.field-0 c.u8.new.self code ∙ ap (λ k. front_of_code k begin_rows c.u8.new.self) c.in-3.is
    ∙ made-none At id_front c.u8.new.self none)

pub returns-in_ok-id-in-3 : goal.returns-in_ok-id-in-3
returns-in_ok-id-in-3 c =
    let code = taken u8_front c.args.reader.now c.u8.new.self c.in_ok-u8.field-0 c.in_ok-u8.ensures in
    let read = taken id_front c.u8.new.self c.id.new.self c.in_ok-id-in-3.field-0 c.in_ok-id-in-3.ensures in
    takes begin_front c.args.reader.now c.id.new.self (At c.in_ok-id-in-3.field-0)
    (code-read begin_rows c.args.reader.now c.in_ok-u8.field-0 c.u8.new.self code ∙ ap (λ k. front_of_code k begin_rows c.u8.new.self) c.in-3.is
    ∙ made-read At id_front c.u8.new.self c.in_ok-id-in-3.field-0 c.id.new.self read)

pub returns-in_default : goal.returns-in_default
returns-in_default c =
    let code = taken u8_front c.args.reader.now c.u8.new.self c.in_ok-u8.field-0 c.in_ok-u8.ensures in
    takes-none begin_front c.args.reader.now c.u8.new.self None refl
    (code-read begin_rows c.args.reader.now c.in_ok-u8.field-0 c.u8.new.self code
    ∙ rows-other begin_rows 0 3 c.in_ok-u8.field-0 c.u8.new.self refl (λ m low high e. omega (arith, low, high, e)))
